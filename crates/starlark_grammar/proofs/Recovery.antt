-- Texts that are lexed on after their faults, and texts after them.
pub mod RestartBounds
pub mod FollowedStops
pub mod FollowedFaults
pub mod MarginTabs
pub mod DecidedFaults
pub mod EarlierLexemes
pub mod Order
pub mod RestartLines
pub mod ClosedBlocks
pub mod LineCuts
pub mod NewlinePieces
pub mod NewlineCuts
pub mod MovedRestarts
pub mod ShortenedStops
pub mod ShortenedFaults
