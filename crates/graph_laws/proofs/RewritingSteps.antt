-- Steps of rewriting keep the graph.
pub mod Rewritten
pub mod PassedWords
pub mod StepsStored
