-- Laws and theorems. Each file stands on those above it.
--     Tables           tables that grow: a cell is what its record builds from the cells below it
--     Firsts           first faults, for loops over a section
--     Tests            tests put together and taken apart
--     CheckNumbers     a check has a number
--     Entries          the kind of a context as code tests it, and its number
--     RuleNumbers      the numbers of rules
--     Headers          the tests of the header and of the area, and what they say
--     TermKinds        kinds of terms and their numbers
--     KindTests        the kind of a term's record as code tests it, and the record by its fields
--     Trees            trees, sorts and free variables of numbers
--     Lets             THE LAW: a term holds a let exactly where one occurs in it
--     Passes           what is known of a bundle in which the checks 5 to 9 find nothing
--     Distinct         THE THEOREM: different numbers stand for different terms
--     Exactly          tests that hold exactly where a proposition does, put together
--     FreeSettled      free variables, moved variables and settled terms: tests on numbers and propositions of trees
--     Formed           THE THEOREMS: checks 5 to 9, and 5 to 11, find nothing exactly in well-formed bundles
--     TermNumbers      what records and contexts name are terms; what a tree says of its record
--     Shapes           the tree of a well-formed term, by its kind
--     Meets            terms that meet: what the walk of whole-term REFL compares, as a relation of trees
--     Crossings        what binders that meet cross; THE LAW: a let's variables may be crossed in any order
--     ReflWalk         the walk of whole-term REFL, one number at a time; THE LAW: with n pairs left it is spent exactly where it visits more
--     ReflExactly      THE THEOREM: the walk ends with no difference exactly at the capture-avoiding replacement, up to names
--     Replacements     laws of capture-avoiding replacement; THE LAW: terms that are the same up to names
--     ReflStep         a REFL step: the two forms, then the walk; THE THEOREM: the forms are replacements
--     Images           equations of images, from what a context's record says
--     Found            images from what the entries of a context say; THE LAW: they say nothing exactly of variables that none mentions
--     Scopes           THE THEOREMS: a term is in scope exactly where its test passes; both sides of a step in context 0 are closed
--     Instances        THE THEOREMS: a step passes 12 to 14, 21 and 22 exactly where it is an instance of its rule with its premises, its sides in scope
--     Strays           THE THEOREM: 22 exactly where a free variable of a side is mentioned by no entry
--     Pairs            THE THEOREMS: 21 exactly where the walk visits more; the last REFL walked, and that its pairs are at most 4,096
--     CongWalk         THE THEOREMS: CONG's test reads at most, and where it passes exactly, the links of its three lists
--     LetSide          THE THEOREM: LET's printed side holds of every instance in a well-formed bundle
--     Values           laws of values: domains, quantifiers, valuations; a value depends on the free variables only
--     Picks            sets of values as lists; THE THEOREM: there are picks for every size
--     ReplacementSound THE THEOREM: a term seen through a context has the value of its capture-avoiding replacement
--     Symbols          the symbol table: declared symbols have records, and stay where more are declared
--     ValueSorts       THE THEOREM: values keep sorts
--     ImageSorts       THE THEOREM: what is seen through a context of a well-formed bundle is a valuation
--     Sound            THE THEOREMS: where every step holds, both sides of a step in context 0 have equal values in every world
--     Records          records from their fields, for bundles that are written out
--     CounterExample   document 01's counter-example: with BIND's printed condition alone a step leads from false to true
--     EntryFacts       what a context that passes check 10 is, by its kind
--     Walked           the image of a variable on the walk towards the empty context
--     Meanings         THE MEANINGS: the sentences of document 01 of values; worlds of every size and valuations exist
--     UnsettledChoice  THE THEOREM: without check 11 soundness fails, by a choice that is not settled
--     Longer           longer bundles: records and lists appended
--     Kept             what old numbers of a well-formed bundle stand for in a longer one
--     FormedKept       old records of a well-formed bundle are well formed in a longer one
--     WalkKept         THE THEOREM: later records change no walk between earlier terms
--     Later            THE THEOREM: later records change nothing earlier
--     NextStep         a step after all those of a bundle
--     WalkBound        THE THEOREMS: what a walk can cost
--     ReplacementRules replacements from replacements of parts, as CONG and BIND have them
--     ReflExamples     examples of whole-term REFL, by computation
--     SkolemExample    both SKO rules on a bundle, by computation
pub mod Tables
pub mod Firsts
pub mod Tests
pub mod CheckNumbers
pub mod Entries
pub mod RuleNumbers
pub mod Headers
pub mod TermKinds
pub mod KindTests
pub mod Trees
pub mod Lets
pub mod Passes
pub mod Distinct
pub mod Exactly
pub mod FreeSettled
pub mod Formed
pub mod TermNumbers
pub mod Shapes
pub mod Meets
pub mod Crossings
pub mod ReflWalk
pub mod ReflExactly
pub mod Replacements
pub mod ReflStep
pub mod Images
pub mod Found
pub mod Scopes
pub mod Instances
pub mod Strays
pub mod Pairs
pub mod CongWalk
pub mod LetSide
pub mod Values
pub mod Picks
pub mod ReplacementSound
pub mod Symbols
pub mod ValueSorts
pub mod ImageSorts
pub mod Sound
pub mod Records
pub mod CounterExample
pub mod EntryFacts
pub mod Walked
pub mod Meanings
pub mod UnsettledChoice
pub mod Longer
pub mod Kept
pub mod FormedKept
pub mod WalkKept
pub mod Later
pub mod NextStep
pub mod WalkBound
pub mod ReplacementRules
pub mod ReflExamples
pub mod SkolemExample
