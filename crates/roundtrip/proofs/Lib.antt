-- What is written is looked up again.
pub mod Elements
pub mod Sizes
pub mod WrittenTrailer
pub mod WrittenDirectory
pub mod WrittenFits
pub mod WrittenOpens
pub mod WrittenBody
pub mod WrittenIsFound
pub mod ReadBack
pub mod OneFile
pub mod LeftFile
pub mod LookedUpAgain
pub mod TwoCalls
