-- Counts and room of the scratch. The laws of room serve crate files.
--     sized_in, sized_as      the length of each section; by the bundle that the words stand for
--     own_counts_as           the counts are those that the bundle has
--     symbols_fit, ..         each section ends within the words
use mathlib.Core.Path.{◌≡◌, sym, ap, ◌∙◌, subst}
use mathlib.Core.List.{List}
use Prim.Native.Nat.{ℕ, ◌+◌, ◌*◌, ◌≤◌}
use native.Mathlib.Omega.{arith}
use lib.ListN.{length}
use Rattle.bundle.specs.declared.Counts.{Counts}
use Rattle.bundle.specs.Bundle.{Bundle}
use Rattle.bundle.specs.Limits.{limits, symbols_at, variables_at, terms_at, links_at, contexts_at, steps_at}
use Rattle.bundle.specs.File.{bundle_by, own_counts}
use Rattle.bundle.proofs.Tab.{tab_length}
use Rattle.bundle.proofs.Fields.{Sized, sized}
use Rattle.scratch.specs.Scratch.{word_in, bundle_in, Roomy}

module _ (w : List ℕ) (c : Counts) where
  pub sized_in : Sized (bundle_in w c) c
  sized_in = sized (word_in w) limits c

  pub sized_as : {b : Bundle} → bundle_in w c ≡ b → Sized b c
  sized_as e = subst (λ (b : Bundle). Sized b c) e sized_in

  own_counts_in : own_counts (bundle_in w c) ≡ c
  unfolding bundle_by
  own_counts_in = rw (
    tab_length _ c.symbols,
    tab_length _ c.variables,
    tab_length _ c.terms,
    tab_length _ c.links,
    tab_length _ c.contexts,
    tab_length _ c.steps,
  )

  pub own_counts_as : {b : Bundle} → bundle_in w c ≡ b → c ≡ own_counts b
  own_counts_as e = sym own_counts_in ∙ ap own_counts e

  -- each section ends within the words
  module _ (r : Roomy w c) where
    pub symbols_fit : symbols_at limits + 2 * c.symbols ≤ length w
    symbols_fit = omega (arith, r.long, r.within.symbols)

    pub variables_fit : variables_at limits + 1 * c.variables ≤ length w
    variables_fit = omega (arith, r.long, r.within.variables)

    pub terms_fit : terms_at limits + 4 * c.terms ≤ length w
    terms_fit = omega (arith, r.long, r.within.terms)

    pub links_fit : links_at limits + 2 * c.links ≤ length w
    links_fit = omega (arith, r.long, r.within.links)

    pub contexts_fit : contexts_at limits + 4 * c.contexts ≤ length w
    contexts_fit = omega (arith, r.long, r.within.contexts)

    pub steps_fit : steps_at limits + 5 * c.steps ≤ length w
    steps_fit = omega (arith, r.long, r.within.steps)
