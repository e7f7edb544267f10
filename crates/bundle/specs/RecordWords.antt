-- A term, a context and a step as the code holds them.
use Rattle.std.specs.Prelude.{◌≤◌}
use Rattle.bundle.specs.Words.{largest_word}
use Rattle.bundle.specs.Bundle.{TermRecord, Context, Step}
use Rattle.bundle.specs.declared.records.TermWords.{TermWords}
use Rattle.bundle.specs.declared.records.ContextWords.{ContextWords}
use Rattle.bundle.specs.declared.records.StepWords.{StepWords}

-- the record whose words the code holds
abbrev pub as_term : TermWords → TermRecord
as_term w = record { kind = w.kind; a = w.first; b = w.second; c = w.third }

abbrev pub as_context : ContextWords → Context
as_context w = record { kind = w.kind; a = w.first; b = w.second; parent = w.parent }

abbrev pub as_step : StepWords → Step
as_step s = record { rule = s.rule; context = s.context; left = s.left; right = s.right; premises = s.premises }

-- each of them is a word of 32 bits
pub record TermFits (w : TermWords) : Type 0 where
  pub kind : w.kind ≤ largest_word
  pub first : w.first ≤ largest_word
  pub second : w.second ≤ largest_word
  pub third : w.third ≤ largest_word

pub record ContextFits (w : ContextWords) : Type 0 where
  pub kind : w.kind ≤ largest_word
  pub first : w.first ≤ largest_word
  pub second : w.second ≤ largest_word
  pub parent : w.parent ≤ largest_word

pub record StepFits (s : StepWords) : Type 0 where
  pub rule : s.rule ≤ largest_word
  pub context : s.context ≤ largest_word
  pub left : s.left ≤ largest_word
  pub right : s.right ≤ largest_word
  pub premises : s.premises ≤ largest_word
