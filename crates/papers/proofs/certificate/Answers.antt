use Rattle.text.specs.Ascii.{ascii}
use Rattle.text.proofs.PageLaws.{says_then}
use Rattle.papers.specs.Papers.{certified_text}
use Rattle.papers.proofs.certificate.Goals as goal

pub returns : goal.returns
unfolding ascii certified_text
returns c =
    let noted = says_then _ _ _ (says_then _ _ _ c.say.ensures c.payment.ensures) c.note.ensures in
    says_then _ _ _ (says_then _ _ _ noted c.say-2.ensures) c.machines.ensures
