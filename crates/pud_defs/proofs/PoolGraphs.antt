-- When stored words are a graph, and when what pools store does not change.
pub mod Graphs
pub mod TypeMore
pub mod FreshGraph
pub mod Holdings
pub mod Contents
pub mod RoomForFields
