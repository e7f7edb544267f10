-- `chains::mentions` meets its contract. The invariant: what the context mentions is mentioned from here up. The measure is the context's number.
use Rattle.logic.specs.Contexts.{Mentioned}
use Rattle.show_rules.proofs.chains.mentions.Given as goal

abbrev pub invariant-loop-c : goal.invariant-loop-c
invariant-loop-c l = Mentioned l.bundle l.context l.x → Mentioned l.bundle l.c l.x

abbrev pub decreases-loop-c : goal.decreases-loop-c
decreases-loop-c l = l.c
