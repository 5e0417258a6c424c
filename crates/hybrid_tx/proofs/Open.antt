-- What an image stands for if it is left while pools have open transactions.
pub mod OpenMasks
pub mod PoolPlaces
pub mod OwnEntries
pub mod Rights
pub mod OpenSettled
pub mod OpenPools
pub mod ManyMasks
pub mod OpenImages
pub mod OpenAlone
pub mod OpenWorlds
pub mod OpenIdle
pub mod ManyIdle
pub mod OpenKept
pub mod OpenApart
pub mod JointPuddles
pub mod JointRedo
