-- Objects that are made, and the puddle by which their pool grows.
pub mod ClassesCounted
pub mod ActivePools
pub mod ActiveMakes
pub mod ActiveGrows
pub mod ActiveNew
pub mod ActiveLines
pub mod MadeKept
