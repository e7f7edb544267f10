-- What the contracts cite.
--     Marks   the marks of variables: what the binders and lets of a job make of each
pub mod Marks
