-- Laws of the rules.
--     SameBundle     a bundle that was handed out
--     BindWords      BIND's side, word by word
--     WalkLists      the walk of CONG and LET, by the lists that the code takes
mod SameBundle
mod BindWords
mod WalkLists
