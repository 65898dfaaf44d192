-- Texts joined at clean cuts.
pub mod Followed
pub mod FollowedBodies
pub mod FollowedPieces
pub mod FollowedMargins
pub mod Settled
pub mod Joined
pub mod CleanCuts
pub mod Tabs
pub mod Laws
pub mod ShortenedBodies
pub mod ShortenedPieces
pub mod LaidCuts
pub mod LineCuts
pub mod KeptPlaces
