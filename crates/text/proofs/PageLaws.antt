-- Laws of pages: text said piece by piece, text that fits and text that does not, and how numbers and bytes are spelled. Assumes nothing.
use Prim.Native.Nat.{ℕ, zero, suc, ◌+◌, ◌-◌, ◌/◌, ◌%◌, ◌≤◌, ◌<◌}
use mathlib.Core.Path.{◌≡◌, refl, sym, ap, ◌∙◌}
use mathlib.Core.Bool.{Bool, true, false, false≢true}
use mathlib.Core.List.{List, [], ◌∷◌, ◌++◌, append_assoc}
use native.Mathlib.Nat.{sub-zero, suc-sub-suc}
use native.Mathlib.Numerals.{add-one}
use native.Mathlib.Omega.{arith}
use lib.Dec.{ltb}
use lib.IntN.{ℤ, pos, negsuc, nat_abs}
use lib.ListN.{length, get_or, take, drop, length-append, length-take, drop_of_length-le}
use lib.Seq.{take_all, take-nil, drop-cons}
use lib.Signed.{lt_z}
use borrow.Author.Tests.{ltb-true, ltb-false, lt-ltb, le-ltb}
use Rattle.octets.specs.Octets.{put}
use Rattle.octets.proofs.Laws.{put_append, length_put}
use Rattle.text.specs.Ascii.{ascii}
use Rattle.text.specs.Pages.{Page, page, fitting, said, digit, spelled, decimal, magnitude, signed, hexadecimal}

-- the first n of two lists in a row: what is left of n behind the first is taken from the second
take_append : (n : ℕ) (a b : List ℕ) → take n (a ++ b) ≡ take n a ++ take (n - length (take n a)) b
take_append zero a b = refl
take_append (suc n) [] b = rw sub-zero
take_append (suc n) (x ∷ a) b = rw (suc-sub-suc, take_append n a b)

-- two texts said one behind the other are one text said
pub said_append : (p : Page) (a b : List ℕ) → said (said p a) b ≡ said p (a ++ b)
unfolding said
said_append p a b =
    let room = length p.bytes - p.length in
    let first = take room a in
    let second = take (room - length first) b in
    let left : length (put p.bytes p.length first) - (p.length + length first) ≡ room - length first = rw length_put (omega arith) in
    let end : p.length + length (first ++ second) ≡ p.length + length first + length second = rw length-append (omega arith) in
    let bytes = put_append p.bytes p.length first second in
    rw (left, take_append room a b) (λ i. page (sym bytes i) (sym end i))

-- the same for callers, who know each page by what was said to make it
pub said_then : {q r : Page} (p : Page) (a b : List ℕ) → q ≡ said p a → r ≡ said q b → r ≡ said p (a ++ b)
said_then p a b first second = second ∙ ap (λ (s : Page). said s b) first ∙ said_append p a b

-- and for pages that are written on in place, which stay the same lent bytes: `Says`
pub says_then : {A : Type 0} {i j k : A} {q r : Page} (p : Page) (a b : List ℕ) → (j ≡ i) × (q ≡ said p a) → (k ≡ j) × (r ≡ said q b) → (k ≡ i) × (r ≡ said p (a ++ b))
says_then p a b first second = (second.0 ∙ first.0, said_then p a b first.1 second.1)

-- the same where the second text is itself two, as a text and a number are
pub said_then_two : {q r : Page} (p : Page) (a b c : List ℕ) → q ≡ said p a → r ≡ said q (b ++ c) → r ≡ said p (a ++ b ++ c)
said_then_two p a b c first second = rw (append_assoc a b c) (said_then p a (b ++ c) first second)

pub says_then_two : {A : Type 0} {i j k : A} {q r : Page} (p : Page) (a b c : List ℕ) → (j ≡ i) × (q ≡ said p a) → (k ≡ j) × (r ≡ said q (b ++ c)) → (k ≡ i) × (r ≡ said p (a ++ b ++ c))
says_then_two p a b c first second = (second.0 ∙ first.0, said_then_two p a b c first.1 second.1)

-- a loop's turn: once the front of a text is said, what is left of it gives the page that all of it would
pub said_rest : {q r : Page} (p : Page) (a b : List ℕ) → q ≡ said p a → said p (a ++ b) ≡ r → said q b ≡ r
said_rest p a b first all = ap (λ (s : Page). said s b) first ∙ said_append p a b ∙ all

-- no text makes a page longer or shorter
pub said_room : (p : Page) (text : List ℕ) → length (said p text).bytes ≡ length p.bytes
unfolding said
said_room p text = length_put p.bytes p.length (fitting p text)

-- where nothing fits, the page stays
said_stays : (p : Page) (text : List ℕ) → fitting p text ≡ [] → said p text ≡ p
unfolding said put
said_stays p text e = rw e (let end : p.length + 0 ≡ p.length = omega arith in λ i. page p.bytes (end i))

-- a text with nothing in it, one for which there is no room, one that fits, and one that fills the page
pub said_nothing : (p : Page) → said p [] ≡ p
said_nothing p = said_stays p [] (take-nil (length p.bytes - p.length))

pub said_full : (p : Page) (text : List ℕ) → length p.bytes ≤ p.length → said p text ≡ p
said_full p text h = let none : length p.bytes - p.length ≡ 0 = omega arith in said_stays p text (rw none)

pub said_whole : (p : Page) (text : List ℕ) → p.length + length text ≤ length p.bytes → said p text ≡ page (put p.bytes p.length text) (p.length + length text)
unfolding said
said_whole p text h = rw (take_all (length p.bytes - p.length) text (omega arith))

pub said_part : (p : Page) (text : List ℕ) → p.length ≤ length p.bytes → length p.bytes ≤ p.length + length text → said p text ≡ page (put p.bytes p.length (fitting p text)) (length p.bytes)
unfolding said
said_part p text h k =
    let end : p.length + length (fitting p text) ≡ length p.bytes = rw length-take (omega arith) in
    λ i. page (put p.bytes p.length (fitting p text)) (end i)

-- saying leaves no more text than there are bytes, so that callers may cut it out
pub said_within : {q : Page} (p : Page) (text : List ℕ) → q ≡ said p text → p.length ≤ length p.bytes → q.length ≤ length q.bytes
unfolding said
said_within p text e h = rw (e, length_put, length-take) (omega arith)

-- a number below ten is spelled by its digit, whatever the bound
spelled_digit : (places n : ℕ) → n < 10 → spelled (suc places) n ≡ digit n ∷ []
unfolding spelled
spelled_digit places n h = rw (lt-ltb n 10 h)

-- any other by the spelling of what stands before its last digit, and that digit
spelled_more : (places n : ℕ) → 10 ≤ n → spelled (suc places) n ≡ spelled places (n / 10) ++ (digit (n % 10) ∷ [])
unfolding spelled
spelled_more places n h = rw (le-ltb n 10 h)

-- bounds above a number give one spelling
pub spelled_any : (places more n : ℕ) → n < places → n < more → spelled places n ≡ spelled more n
spelled_any zero more n h k = absurd (omega arith)
spelled_any (suc places) zero n h k = absurd (omega arith)
spelled_any (suc places) (suc more) n h k =
    go (ltb n 10) refl (λ high. spelled_any places more (n / 10) (omega arith) (omega arith))
  where
    go : (b : Bool) → ltb n 10 ≡ b → (10 ≤ n → spelled places (n / 10) ≡ spelled more (n / 10)) → spelled (suc places) n ≡ spelled (suc more) n
    go true e rest = let low : n < 10 = ltb-true n 10 e in spelled_digit places n low ∙ sym (spelled_digit more n low)
    go false e rest =
        let high : 10 ≤ n = ltb-false n 10 e in
        spelled_more places n high
        ∙ ap (λ (front : List ℕ). front ++ (digit (n % 10) ∷ [])) (rest high)
        ∙ sym (spelled_more more n high)

-- so the digits of a number are its one digit, or those of what stands before the last and the last
pub decimal_digit : (n : ℕ) → n < 10 → decimal n ≡ digit n ∷ []
decimal_digit n h = spelled_digit n n h

pub decimal_more : (n : ℕ) → 10 ≤ n → decimal n ≡ decimal (n / 10) ++ (digit (n % 10) ∷ [])
decimal_more n h =
    spelled_more n n h ∙ ap (λ (front : List ℕ). front ++ (digit (n % 10) ∷ [])) (spelled_any n (suc (n / 10)) (n / 10) (omega arith) (omega arith))

-- how far a number is from 0 is its absolute value
pub magnitude_abs : (n : ℤ) → nat_abs n ≡ magnitude n
magnitude_abs (pos n) = refl
magnitude_abs (negsuc n) = refl

-- a number below 0 has a sign, and any other has none
pub signed_below : (n : ℤ) → lt_z n (pos 0) ≡ true → signed n ≡ ascii "-" ++ decimal (magnitude n)
signed_below (pos n) h = absurd (omega (arith, ltb-true n 0 h))
signed_below (negsuc n) h = refl

pub signed_above : (n : ℤ) → lt_z n (pos 0) ≡ false → signed n ≡ decimal (magnitude n)
signed_above (pos n) h = refl
signed_above (negsuc n) h = absurd (false≢true (sym h))

-- a turn of a loop over bytes: the digits of what is left are those of the next byte, and those of the rest; at the end there are none
pub hexadecimal_more : (s : List ℕ) (i : ℕ) → i < length s → hexadecimal (drop i s) ≡ hexadecimal (get_or s i 0 ∷ []) ++ hexadecimal (drop (i + 1) s)
unfolding hexadecimal
hexadecimal_more s i h = rw (add-one, drop-cons s i 0 h)

pub hexadecimal_end : (s : List ℕ) (i : ℕ) → length s ≤ i → hexadecimal (drop i s) ≡ []
unfolding hexadecimal
hexadecimal_end s i h = rw (drop_of_length-le s h)
