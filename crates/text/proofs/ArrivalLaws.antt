-- What a buffer holds after its front was done with. Assumes nothing.
use Prim.Native.Nat.{ℕ, ◌+◌, ◌-◌, ◌≤◌}
use mathlib.Core.Path.{◌≡◌, sym, ap, ◌∙◌}
use mathlib.Core.Bool.{false}
use mathlib.Core.List.{List, [], ◌++◌, append-nil}
use native.Mathlib.Omega.{arith}
use lib.ListN.{length, take, drop, length-take, length-drop, drop_of_length-le}
use lib.Seq.{take-add}
use Rattle.std.specs.List.{copy_within}
use Rattle.std.proofs.lemmas.List.{drop-take, take_min}
use Rattle.std.proofs.lemmas.List.Edits.{sets-eq}
use Rattle.octets.specs.Octets.{put}
use Rattle.octets.proofs.Laws.{cut_put}
use Rattle.text.specs.Words.{line_end}
use Rattle.text.specs.Arrivals.{arrived, held_in, Grows}
use Rattle.text.specs.declared.arrivals.Held.{Held}

-- the first bytes, without those at their very front, are moved to the front
pub moved_front : (s : List ℕ) (from filled : ℕ) → from ≤ length (take filled s) → copy_within s from (length (take filled s)) 0 ≡ put s 0 (drop from (take filled s))
unfolding put
moved_front s from filled h =
    let end = length (take filled s) in
    let n = length-take filled s in
    let whole : from + (end - from) ≡ end = omega (arith, h) in
    let kept : take (end - from) (drop from s) ≡ drop from (take filled s) =
    sym (drop-take from (end - from) s) ∙ ap (drop from) (ap (λ (k : ℕ). take k s) (whole ∙ n) ∙ take_min filled s) in
    let size : length (drop from (take filled s)) ≡ end - from = length-drop from (take filled s) in
    rw (sets-eq (drop from (take filled s)) s 0 (omega (arith, n, size)), kept, size)

-- what was moved to the front is held
pub moved : {b : List ℕ} {n : ℕ} (s : List ℕ) (from filled : ℕ) → b ≡ put s 0 (drop from (take filled s)) → n ≡ length (drop from (take filled s)) → arrived (take n b) false ≡ arrived (drop from (take filled s)) false
moved s from filled e m =
    rw (e, m)
    (ap (λ (bytes : List ℕ). arrived bytes false) (cut_put s 0 (drop from (take filled s)) (simp (length-drop, length-take) (omega arith))))

-- where no line has ended, nothing stands behind it
pub nothing_behind : {end : ℕ} (s : List ℕ) (filled : ℕ) → end ≡ line_end (take filled s) → filled ≤ end → arrived [] false ≡ arrived (drop (line_end (take filled s) + 1) (take filled s)) false
nothing_behind s filled e h =
    let n = length-take filled s in
    let past : length (take filled s) ≤ line_end (take filled s) + 1 = omega (arith, n, e, h) in
    ap (λ (bytes : List ℕ). arrived bytes false) (sym (drop_of_length-le (take filled s) past))

-- where what is held stays, nothing more has arrived; what stands behind it may have
pub grows_none : (s t : List ℕ) (held : Held) → take held.filled t ≡ take held.filled s → Grows (held_in s held) (held_in t held)
grows_none s t held stays = ([], ap (λ (bytes : List ℕ). arrived bytes held.skips) (stays ∙ sym (append-nil (take held.filled s))))

pub grows_more : (s t : List ℕ) (held : Held) (n : ℕ) → take held.filled t ≡ take held.filled s → Grows (held_in s held) (held_in t (record { filled = held.filled + n; skips = held.skips }))
grows_more s t held n stays =
    (take n (drop held.filled t), ap (λ (bytes : List ℕ). arrived bytes held.skips) (take-add held.filled n t ∙ ap (λ (front : List ℕ). front ++ take n (drop held.filled t)) stays))
