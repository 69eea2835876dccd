pub mod Tasks
pub mod Steps
pub mod RootTables
pub mod RoutePairs
pub mod WalksKept
