-- What a pool is imported from comes back in each file that is made of the pool.
pub mod ExamplesReturned
pub mod Returned
pub mod TypesBrought
