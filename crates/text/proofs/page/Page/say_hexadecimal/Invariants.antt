use mathlib.Core.Path.{◌≡◌}
use lib.ListN.{drop}
use Rattle.text.specs.Pages.{page, said, hexadecimal}
use Rattle.text.proofs.page.Page.say_hexadecimal.Given as goal

abbrev pub invariant-loop-byte : goal.invariant-loop-byte
invariant-loop-byte l =
    (l.self.bytes.ghost_name ≡ l.initial.self.bytes.ghost_name)
    × (said (page l.self.bytes.now l.self.length) (hexadecimal (drop l.byte-index l.bytes)) ≡ said (page l.initial.self.bytes.now l.initial.self.length) (hexadecimal l.bytes))
