-- Laws.
--     ReadingLaws   what is read, put together from its parts
pub mod ReadingLaws
