pub mod NewNodes
