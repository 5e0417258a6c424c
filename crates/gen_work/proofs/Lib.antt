mod Examples
pub mod WholeScript
