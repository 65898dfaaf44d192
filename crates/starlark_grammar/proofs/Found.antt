-- All that is found in a text that is lexed on after its faults.
pub mod CommentEnds
pub mod FoundItems
pub mod PassedFaults
pub mod Order
pub mod Apart
pub mod JoinedTexts
pub mod ClosedTexts
pub mod Cuts
pub mod CutItems
