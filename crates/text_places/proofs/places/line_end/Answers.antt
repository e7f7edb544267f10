-- `places::line_end` meets its contract.
use Rattle.std.proofs.Common.{rules, ◌≡◌, ◌∙◌, true, false}
use Rattle.std.proofs.lemmas.Iterator.{YieldsList-from_slice, IsFirst-from_position}
use Rattle.std.proofs.lemmas.List.{take_rest}
use Rattle.text_places.specs.Places.{is_break}
use Rattle.text_places.proofs.PlaceLaws.{first_break, no_break}
use Rattle.text_places.proofs.places.line_end.Goals as goal

pub returns-in-Some : goal.returns-in-Some
returns-in-Some c =
    let f = IsFirst-from_position _ _ _ (λ b. is_break b ≡ true) (λ b. is_break b ≡ false) c.in-Some.ensures.ran (YieldsList-from_slice _ (c.iter.ensures.rest ∙ take_rest c.args.text.now c.args.at)) (λ x q k. search rules) (λ x q k. search rules) in
    first_break c.args.text.now c.args.at c.requires c.in-Some.n f.0 f.1 f.2

pub returns-in-None : goal.returns-in-None
returns-in-None c =
    let f = IsFirst-from_position _ _ _ (λ b. is_break b ≡ true) (λ b. is_break b ≡ false) c.in-None.ensures.ran (YieldsList-from_slice _ (c.iter.ensures.rest ∙ take_rest c.args.text.now c.args.at)) (λ x q k. search rules) (λ x q k. search rules) in
    no_break c.args.text.now c.args.at c.requires f
