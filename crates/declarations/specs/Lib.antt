-- What the contracts cite.
--     Sections   what is wrong with a record, by its section; the first bad record of the sections before the terms
pub mod Sections
