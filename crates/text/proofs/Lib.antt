-- The laws of a query's text and of reading it.
pub mod Formed
pub mod ReadTexts
pub mod Replies
pub mod SingleReply
pub mod PrintedIsRead
pub mod ReadIsPrinted
pub mod Settled
