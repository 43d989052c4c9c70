use mathlib.Core.Path.{sym, ◌∙◌}
use Rattle.text.proofs.PageLaws.{said_rest, said_nothing, hexadecimal_more, hexadecimal_end}
use Rattle.text.proofs.page.Page.say_hexadecimal.Goals as goal

pub loop-byte-preserved : goal.loop-byte-preserved
loop-byte-preserved c =
    let came = c.loop-byte in
    let turn = hexadecimal_more c.args.bytes.now came.byte-index c.loop-byte-test.true in
    (c.say_pair.ensures.0 ∙ came.invariant.0, said_rest _ _ _ c.say_pair.ensures.1 (rw (← turn) came.invariant.1))

pub returns : goal.returns
returns c =
    let came = c.loop-byte in
    (came.invariant.0, sym (said_nothing _) ∙ rw (hexadecimal_end _ _ c.loop-byte-test.false) at came.invariant.1)
