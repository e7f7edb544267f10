-- Laws for what show says of a step.
--     Mentions            what no entry of a context mentions
--     FreeUnmentioned     a stray variable, by an area that holds the free sets
pub mod Mentions
pub mod FreeUnmentioned
