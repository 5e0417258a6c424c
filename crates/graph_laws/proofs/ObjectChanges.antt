-- How a stored word changes the graph: fields, roots, objects that are made and freed, and their references.
pub mod ContentLists
pub mod TableChanges
pub mod Fields
pub mod NewObjects
pub mod FreedObjects
pub mod Roots
pub mod KeyedSums
pub mod ReferenceCounts
