-- What the contracts of inner functions cite.
--     Tests   the tests of nodes, as code makes them
pub mod Tests
