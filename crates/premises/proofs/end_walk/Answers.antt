-- `end_walk` meets its contract: a list has ended, so nothing more is read but a premise for a body.
use native.Mathlib.Omega.{arith}
use Rattle.bundle.proofs.Walks.{next_is}
use Rattle.premises.proofs.Premises.{walk_short, end_plain, end_missing, end_body, in_all}
use Rattle.premises.proofs.end_walk.Goals as goal

pub returns-then-i-j : goal.returns-then-i-j
returns-then-i-j c step x =
    let a = c.args in
    let h = c.requires in
    in_all a.read a.read 0
    (walk_short a.bundle.now step a.body x a.i a.j a.k h.0 h.1 h.4 c.if-i-j.true)
    (omega arith)

pub returns-then-not-body : goal.returns-then-not-body
returns-then-not-body c step x =
    let a = c.args in
    let h = c.requires in
    in_all a.read a.read 0
    (end_plain a.bundle.now step x a.i a.j a.k c.if-i-j.false c.if-not-body.true h.2)
    (omega arith)

pub returns-then-k-eq0 : goal.returns-then-k-eq0
returns-then-k-eq0 c step x =
    let a = c.args in
    let body = c.if-not-body.false in
    in_all a.read a.read 0
    (end_missing a.bundle.now step x a.i a.j a.k c.if-i-j.false body c.if-k-eq0.true)
    (omega arith)

pub returns : goal.returns
returns c step x =
    let a = c.args in
    let h = c.requires in
    let body = c.if-not-body.false in
    let t = c.read_link-last in
    let r = c.followed-more in
    let rs = rw c.links-links.ensures.0 at r.ensures in
    in_all a.read t.result.links 1
    (end_body a.bundle.now step x a.i a.j a.k c.if-i-j.false body r.result
    c.if-k-eq0.false h.2 (next_is a.bundle.now a.k t.ensures.1 rs))
    t.ensures.2
