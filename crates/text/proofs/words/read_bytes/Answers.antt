use mathlib.Core.Path.{refl, sym, ◌∙◌}
use native.Mathlib.Omega.{arith}
use Rattle.octets.specs.Octets.{put}
use Rattle.text.specs.Words.{bytes_of}
use Rattle.text.proofs.WordLaws.{bytes_digits, put_read}
use Rattle.text.proofs.words.read_bytes.Goals as goal

pub returns-then-is_stroke : goal.returns-then-is_stroke
unfolding bytes_of put
returns-then-is_stroke c = rw (sym c.is_stroke.ensures ∙ c.if-is_stroke.true) (refl, refl, omega arith)

pub unhex-requires : goal.unhex-requires
unhex-requires c = let d = bytes_digits _ c.requires.0 (sym c.is_stroke.ensures ∙ c.if-is_stroke.false) in (d.0, d.1, c.requires.1)

pub returns : goal.returns
unfolding bytes_of
returns c = rw (sym c.is_stroke.ensures ∙ c.if-is_stroke.false)
    (put_read _ _ _ _ c.unhex.ensures.0 c.unhex.ensures.1 c.unhex.ensures.2)
