-- The mathematics of bundles. Each file stands on those above it.
--     Tests        tests, numbered tests, and the first fault of a section
--     Failures     which check fails, as the code says it
--     Lists        what is said of lists, in propositions
--     Table        tables that grow record by record: trees, free variables, sorts, images
--     Symbols      the symbol table: built-in, reserved and declared symbols, their sorts
--     Terms        term trees, and the tree of a term's number
--     Sorts        the sort of a term
--     Free         free variables, and how the sets of all terms stand in an area
--     Lets         terms that hold a let
--     Checks       document 01's checks 1 to 9: what is wrong with a file, a link, a symbol, a variable, a term
--     Distinct     the statement that different numbers stand for different terms
--     Contexts     images, moved variables, settled terms; checks 10 and 11
--     Readings     what the tests of a step read besides the records
--     ReflWalk     the walk of whole-term REFL over pairs of records, with the number of pairs that it visits
--     Rules        the seven rules as tests on record numbers; checks 12, 22, 21, 13 and 14
--     Named        kinds, entries and rules as the code names them
--     WellFormed   what document 01 says of the header, the tables and the contexts, in propositions
--     Nameless     terms without the names of their binders
--     Replacement  CAPTURE-AVOIDING REPLACEMENT, up to the names of binders; terms that are the same up to names
--     Instance     THE RULES AS PRINTED: steps that are instances of REFL, CONG, TRANS, BIND, LET or one of the two SKO
--     Values       worlds and their picks, valuations, and the value of a term
--     Meanings     what values mean: document 01's sentences, and that worlds exist, as types
--     Longer       bundles with records appended
--     Lookup       terms looked up
--     Statements   the theorems, as types: proofs/ has each under the same name
pub mod Tests
pub mod Failures
pub mod Lists
pub mod Table
pub mod Symbols
pub mod Terms
pub mod Sorts
pub mod Free
pub mod Lets
pub mod Checks
pub mod Distinct
pub mod Contexts
pub mod Readings
pub mod ReflWalk
pub mod Rules
pub mod Named
pub mod WellFormed
pub mod Nameless
pub mod Replacement
pub mod Instance
pub mod Values
pub mod Meanings
pub mod Longer
pub mod Lookup
pub mod Statements
