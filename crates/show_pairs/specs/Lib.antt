-- What the contracts cite.
--     Levels   the terms of a level, its words, what it binds, and where it stands
pub mod Levels
