pub mod Cut
pub mod FeedVerdict
pub mod Feed
pub mod FeedCalls
pub mod FeedSource
pub mod FeedRun
