use mathlib.Core.Bool.{not}
use Prim.Native.Nat.{◌≤◌}
use mathlib.Core.Path.{◌≡◌, ap, ◌∙◌}
use lib.ListN.{length}
use native.Mathlib.Omega.{arith}
use Rattle.text.specs.Words.{word_at}
use Rattle.text.proofs.WordLaws.{word_readable}
use Rattle.text.proofs.line.Line.digits.Goals as goal

pub returns : goal.returns
returns c =
    let k = c.args.k in
    let word = word_readable k _ c.self.invariant c.word-word.ensures c.is_bytes.ensures (ap not c.if-not-is_bytes.false) in
    let e : c.word-word.result.now ≡ word_at k c.args.self.now = c.word-word.ensures ∙ ap (word_at k) c.self.view_is in
    let most : length c.word-word.result.now ≤ 4_096 = omega (arith, word.1) in
    (rw e at word.0, e, rw e at most)
