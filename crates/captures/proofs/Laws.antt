-- The laws of specs/Laws: a call's text says the call; comments and blanks at the end say nothing.
use mathlib.Core.Path.{◌≡◌, refl, ap, sym, ◌∙◌}
use mathlib.Core.Bool.{Bool, true, false, cond, not, ◌&&◌}
use mathlib.Core.List.{List, [], ◌∷◌, ◌++◌, append_assoc, append-nil}
use Prim.Native.Nat.{ℕ, zero, suc, ◌+◌, ◌*◌, ◌/◌, ◌%◌, ◌^◌, ◌≤◌, ◌<◌, min}
use native.Mathlib.Omega.{arith}
use native.Mathlib.Nat.{pow-zero, pow-suc, mod-lt, div-add-mod', div-lt_iff_lt-mul, add-mul, mul_assoc}
use lib.Dec.{eqb, leb, ltb}
use lib.ListN.{length, length-append, take-append-drop}
use borrow.Author.Tests.{not-true, eq-eqb, ne_eqb, lt-ltb, le-leb, lt-leb, ltb-true, ltb-false, leb-true}
use Rattle.logic.specs.Every.{every}
use Rattle.texts.specs.Numbers.{letter, digits, places, decimal as decimalOf}
use Rattle.texts.proofs.Numbers.{digits_length, places_most, decimal_most}
use Rattle.logic.proofs.Both.{both, first, second, split}
use Rattle.logic.proofs.Every.{every_append}
use Rattle.logic.proofs.Tests.{by_test, clash}
use Rattle.std.specs.Prelude.{Some, Ok}
use Rattle.captures.specs.declared.Wanted.{Wanted}
use Rattle.captures.specs.declared.Wanted.TheVariants as wanted
use Rattle.captures.specs.declared.Bytes.{Bytes}
use Rattle.captures.specs.declared.Call.{Call}
use Rattle.captures.specs.declared.Call.TheVariants.{Start, Write, Vram, Oam, Step, Corrupt, Colour}
use Rattle.captures.specs.Words.{is_hash, is_blank, text, closed, words_from, words, is_same}
use Rattle.captures.specs.Names.{write_word, colour_word}
use Rattle.captures.specs.Names.{dmg_word, cgb_word, grey_word, on_word, off_word, read_word, read_write_word}
use Rattle.captures.specs.Numbers.{digit_of, number_from}
use Rattle.captures.specs.Reading.{either, kind_of, hexadecimal, bytes_of, within, decimal, meaning, Then, onward, argument, whole}
use Rattle.captures.specs.Reading.{read_start, read_write, read_bytes, read_step, read_corrupt, read_colour, read_call, said, reading}
use Rattle.captures.specs.Printing.{spaced, kind_word, bytes_words, name_of, arguments_of, printed}
use Rattle.captures.specs.Laws.{is_times, are_bytes, is_writable, PrintedIsRead, CommentsSayNothing, BlanksSayNothing, PrintedFits, BufferIs}
use Rattle.captures.proofs.Texts.{closes}

-- COMMENTS AND BLANKS

text_comment : (l comment : List ℕ) → text (l ++ 35 ∷ comment) ≡ text l
unfolding text
text_comment [] comment = refl
text_comment (b ∷ l) comment = rw (text_comment l comment)

pub comments_say_nothing : CommentsSayNothing
unfolding reading
comments_say_nothing l comment = rw (text_comment l comment) refl

-- no blank begins a comment
blank_no_hash : (b : ℕ) → is_blank b ≡ true → is_hash b ≡ false
unfolding is_blank
blank_no_hash b e = ne_eqb b 35 λ q. clash e (rw q (hash_no_blank))
  where
    hash_no_blank : is_blank 35 ≡ false
    hash_no_blank = refl

-- blanks are text, and behind a text they are its end
text_blanks : (blanks : List ℕ) → every is_blank blanks ≡ true → text blanks ≡ blanks
unfolding text every
text_blanks [] e = refl
text_blanks (b ∷ blanks) e = rw (blank_no_hash b (first (is_blank b) _ e), text_blanks blanks (second (is_blank b) _ e)) refl

words_blanks : (w blanks : List ℕ) → every is_blank blanks ≡ true → words_from w blanks ≡ closed w []
unfolding words_from every closed
words_blanks w [] e = refl
words_blanks w (b ∷ blanks) e = rw (first (is_blank b) _ e, words_blanks [] blanks (second (is_blank b) _ e)) refl

text_words : (w l blanks : List ℕ) → every is_blank blanks ≡ true → words_from w (text (l ++ blanks)) ≡ words_from w (text l)
unfolding text words_from
text_words w [] blanks e = rw (text_blanks blanks e) (words_blanks w blanks e)
text_words w (b ∷ l) blanks e = by (is_hash b) (λ u. text_words u l blanks e)
  where
    on : (v : Bool) → ((u : List ℕ) → words_from u (text (l ++ blanks)) ≡ words_from u (text l))
        → cond v (closed w (words_from [] (text (l ++ blanks)))) (words_from (w ++ (b ∷ [])) (text (l ++ blanks)))
        ≡ cond v (closed w (words_from [] (text l))) (words_from (w ++ (b ∷ [])) (text l))
    on true f = ap (closed w) (f [])
    on false f = f (w ++ (b ∷ []))

    by : (v : Bool) → ((u : List ℕ) → words_from u (text (l ++ blanks)) ≡ words_from u (text l))
        → words_from w (cond v [] (b ∷ text (l ++ blanks))) ≡ words_from w (cond v [] (b ∷ text l))
    by true f = refl
    by false f = on (is_blank b) f

pub blanks_say_nothing : BlanksSayNothing
unfolding reading
blanks_say_nothing l blanks e = ap said (text_words [] l blanks e)

-- THE WORDS OF A CALL'S TEXT

-- a byte that stands in a word
is_plain : ℕ → Bool
is_plain b = not (is_blank b) && not (is_hash b)

-- a word: one byte at least, and no blank or `#`
is_word : List ℕ → Bool
is_word w = ltb 0 (length w) && every is_plain w

plain_word : (a w l : List ℕ) → every is_plain w ≡ true → words_from a (text (w ++ l)) ≡ words_from (a ++ w) (text l)
unfolding text words_from every is_plain
plain_word a [] l e = rw (append-nil a) refl
plain_word a (b ∷ w) l e =
    let p = first (is_plain b) (every is_plain w) e in
    let blank : is_blank b ≡ false = not-true _ (first (not (is_blank b)) _ p) in
    let hash : is_hash b ≡ false = not-true _ (second (not (is_blank b)) _ p) in
    rw (hash, blank) (plain_word (a ++ (b ∷ [])) w l (second (is_plain b) _ e) ∙ rw (append_assoc a (b ∷ []) w) refl)

spaced_words : (a : List ℕ) (ws : List (List ℕ)) → every is_word ws ≡ true → words_from a (text (spaced ws)) ≡ closed a ws
unfolding text words_from spaced every is_word is_blank
spaced_words a [] e = refl
spaced_words a (w ∷ ws) e =
    let p = first (is_word w) (every is_word ws) e in
    ap (closed a)
    (plain_word [] w (spaced ws) (second (ltb 0 (length w)) _ p)
    ∙ spaced_words w ws (second (is_word w) _ e)
    ∙ closes w ws (ltb-true _ _ (first (ltb 0 (length w)) _ p)))

call_words : (name : List ℕ) (ws : List (List ℕ)) → is_word name ≡ true → every is_word ws ≡ true → words (text (name ++ spaced ws)) ≡ name ∷ ws
unfolding is_word
call_words name ws p e =
    plain_word [] name (spaced ws) (second (ltb 0 (length name)) _ p)
    ∙ spaced_words name ws e
    ∙ closes name ws (ltb-true _ _ (first (ltb 0 (length name)) _ p))

-- NUMBERS

-- from `0` on no byte is a blank or a `#`
plain : (b : ℕ) → 48 ≤ b → is_plain b ≡ true
unfolding is_plain is_blank
plain b h = rw (ne_eqb b 32 (λ e. omega arith), ne_eqb b 9 (λ e. omega arith), ne_eqb b 13 (λ e. omega arith), ne_eqb b 35 (λ e. omega arith)) refl

letter_plain : (d : ℕ) → is_plain (letter d) ≡ true
unfolding letter
letter_plain d = plain _ (by_test (λ (b : ℕ). 48 ≤ b) (ltb d 10) (λ _. omega arith) (λ _. omega arith))

digits_plain : (base k n : ℕ) → every is_plain (digits base k n) ≡ true
unfolding digits every
digits_plain base zero n = refl
digits_plain base (suc k) n = every_append is_plain (digits base k (n / base)) (letter (n % base) ∷ []) ∙ both (digits_plain base k (n / base)) (both (letter_plain (n % base)) refl)

digits_word : (base k n : ℕ) → 0 < k → is_word (digits base k n) ≡ true
unfolding is_word
digits_word base k n h =
    let some : 0 < length (digits base k n) = rw (digits_length base k n) h in
    both (lt-ltb _ _ some) (digits_plain base k n)

-- a digit is read back
letter_digit : (d : ℕ) → d < 16 → digit_of (letter d) ≡ d
unfolding letter digit_of
letter_digit d h = by (ltb d 10) refl
  where
    by : (v : Bool) → ltb d 10 ≡ v → digit_of (cond v (48 + d) (55 + d)) ≡ d
    by true e =
        let small = ltb-true d 10 e in
        rw (le-leb 48 (48 + d) (omega arith), le-leb (48 + d) 57 (omega arith)) (omega arith)
    by false e =
        let large = ltb-false d 10 e in
        rw (le-leb 48 (55 + d) (omega arith), lt-leb (55 + d) 57 (omega arith), le-leb 65 (55 + d) (omega arith), le-leb (55 + d) 70 (omega arith)) (omega arith)

-- the digits of a number are read back
digits_read : (base k n m : ℕ) (l : List ℕ) → 0 < base → base ≤ 16 → n < base ^ k → number_from base m (digits base k n ++ l) ≡ number_from base (m * base ^ k + n) l
unfolding digits number_from
digits_read base zero n m l p h s =
    let one : base ^ 0 ≡ 1 = pow-zero base in
    let none : m * 1 + n ≡ m = omega arith in
    rw (one, none) refl
digits_read base (suc k) n m l p h s =
    let d = n % base in
    let below : d < base = mod-lt n p in
    let front : n / base < base ^ k = (div-lt_iff_lt-mul p).1 (rw (pow-suc base k) at s) in
    let sum : (m * base ^ k + n / base) * base + n % base ≡ m * base ^ suc k + n = total in
    rw (append_assoc (digits base k (n / base)) (letter d ∷ []) l)
    (digits_read base k (n / base) m (letter d ∷ l) p h front
    ∙ rw (letter_digit d (omega arith), lt-ltb d base below, sum) refl)
  where
    total : (m * base ^ k + n / base) * base + n % base ≡ m * base ^ suc k + n
    total = rw (pow-suc base k) (omega (arith, div-add-mod' n base, add-mul (m * base ^ k) (n / base) base, mul_assoc m (base ^ k) base))

number_read : (base k n : ℕ) → 0 < base → base ≤ 16 → n < base ^ k → number_from base 0 (digits base k n) ≡ Some n
unfolding number_from
number_read base k n p h s =
    let zeroed : 0 * base ^ k + n ≡ n = omega arith in
    sym (ap (number_from base 0) (append-nil (digits base k n))) ∙ digits_read base k n 0 [] p h s ∙ ap Some zeroed

-- a number's decimal places hold it
places_hold : (more n : ℕ) → n < 10 ^ suc more → n < 10 ^ places more n
unfolding places
places_hold zero n h = h
places_hold (suc more) n h = by (ltb n 10) refl (λ f. places_hold more (n / 10) f)
  where
    by : (v : Bool) → ltb n 10 ≡ v → (n / 10 < 10 ^ suc more → n / 10 < 10 ^ places more (n / 10)) → n < 10 ^ cond v 1 (suc (places more (n / 10)))
    by true e f = ltb-true n 10 e
    by false e f =
        let all : n < 10 ^ suc more * 10 = rw (pow-suc 10 (suc more)) at h in
        let front : n / 10 < 10 ^ suc more = omega arith in
        let held : n / 10 < 10 ^ places more (n / 10) = f front in
        rw (pow-suc 10 (places more (n / 10))) (omega arith)

places_some : (more n : ℕ) → 0 < places more n
unfolding places
places_some zero n = omega arith
places_some (suc more) n = by_test (λ (k : ℕ). 0 < k) (ltb n 10) (λ _. omega arith) (λ _. omega arith)

-- WHAT THE ARGUMENTS' WORDS MEAN

address_read : (n : ℕ) → n < 65536 → meaning wanted.Address (digits 16 4 n) ≡ Some n
unfolding meaning hexadecimal
address_read n h = rw (eq-eqb _ _ (digits_length 16 4 n)) (number_read 16 4 n (omega arith) (omega arith) h)

value_read : (n : ℕ) → n < 256 → meaning wanted.Value (digits 16 2 n) ≡ Some n
unfolding meaning hexadecimal
value_read n h = rw (eq-eqb _ _ (digits_length 16 2 n)) (number_read 16 2 n (omega arith) (omega arith) h)

-- two hexadecimal digits for each byte
bytes_digits : (count : ℕ) → 256 ^ count ≡ 16 ^ (2 * count)
bytes_digits zero = refl
bytes_digits (suc count) =
    let two : 2 * suc count ≡ suc (suc (2 * count)) = omega arith in
    rw (two, pow-suc 256 count, pow-suc 16 (suc (2 * count)), pow-suc 16 (2 * count), bytes_digits count) (omega arith)

bytes_read : (count n : ℕ) → 1 ≤ count → count ≤ 8 → n < 256 ^ count → meaning wanted.Bytes (digits 16 (2 * count) n) ≡ Some n
unfolding meaning bytes_of
bytes_read count n low high h =
    let size : length (digits 16 (2 * count) n) ≡ 2 * count = digits_length 16 (2 * count) n in
    let even : 2 * count % 2 ≡ 0 = omega arith in
    rw (size, eq-eqb _ _ even, le-leb 2 (2 * count) (omega arith), le-leb (2 * count) 16 (omega arith))
    (number_read 16 (2 * count) n (omega arith) (omega arith) (rw (bytes_digits count) at h))

decimal_read : (low high n : ℕ) → low ≤ n → n ≤ high → n < 10000000000 → decimal low high (decimalOf n) ≡ Some n
unfolding decimal decimalOf within
decimal_read low high n l h s =
    let k = places 9 n in
    let size : length (digits 10 k n) ≡ k = digits_length 10 k n in
    rw (size, le-leb 1 k (places_some 9 n), le-leb k 10 (places_most 9 n))
    (rw (number_read 10 k n (omega arith) (omega arith) (places_hold 9 n s)) (rw (le-leb low n l, le-leb n high h) refl))

decimal_word : (n : ℕ) → is_word (decimalOf n) ≡ true
unfolding decimalOf
decimal_word n = digits_word 10 (places 9 n) n (places_some 9 n)

-- an argument whose word means a number
taken : (k : Wanted) (w : List ℕ) (ws : List (List ℕ)) (n : ℕ) (then : Then) → meaning k w ≡ Some n → argument k (w ∷ ws) then ≡ then n (length w) ws
unfolding argument onward
taken k w ws n then e = rw e refl

-- A CALL'S TEXT

said_printed : (call : Call) (ws : List (List ℕ)) → arguments_of call ≡ ws → is_word (name_of call) ≡ true → every is_word ws ≡ true
    → reading (printed call) ≡ read_call (name_of call) ws
unfolding reading printed said
said_printed call ws a n e = rw (a, call_words (name_of call) ws n e) refl

-- the arguments of bytes
module _ (b : Bytes) (e : are_bytes b ≡ true) where
  bytes_facts : (b.address < 65536) × (1 ≤ b.count) × (b.count ≤ 8) × (b.bytes < 256 ^ b.count) × (1 ≤ b.times) × (b.times ≤ 4294967295)
  unfolding are_bytes
  bytes_facts =
      let address = ltb b.address 65536 in
      let low = leb 1 b.count in
      let high = leb b.count 8 in
      let held = ltb b.bytes (256 ^ b.count) in
      let front = first (address && (low && high) && held) (is_times b.times) e in
      let times = second (address && (low && high) && held) (is_times b.times) e in
      let place = first (address && (low && high)) held front in
      let count = second address (low && high) place in (
        ltb-true _ _ (first address (low && high) place),
        leb-true _ _ (first low high count),
        leb-true _ _ (second low high count),
        ltb-true _ _ (second (address && (low && high)) held front),
        leb-true _ _ (first (leb 1 b.times) (leb b.times 4294967295) times),
        leb-true _ _ (second (leb 1 b.times) (leb b.times 4294967295) times),
      )

  bytes_count : min b.count 8 ≡ b.count
  bytes_count = omega (arith, bytes_facts.2)

  bytes_words_law : every is_word (bytes_words b) ≡ true
  unfolding bytes_words every
  bytes_words_law =
      both (digits_word 16 4 b.address (omega arith))
      (both (digits_word 16 (2 * min b.count 8) b.bytes (rw bytes_count (omega (arith, bytes_facts.1)))) (both (decimal_word b.times) refl))

  bytes_said : (oam : Bool) → read_bytes oam (bytes_words b) ≡ Ok (Some (cond oam Oam Vram b))
  unfolding read_bytes bytes_words whole meaning
  bytes_said oam =
      let size : length (digits 16 (2 * b.count) b.bytes) / 2 ≡ b.count = rw (digits_length 16 (2 * b.count) b.bytes) (omega arith) in
      rw bytes_count
      (taken wanted.Address _ _ b.address _ (address_read b.address bytes_facts.0)
      ∙ taken wanted.Bytes _ _ b.bytes _ (bytes_read b.count b.bytes bytes_facts.1 bytes_facts.2 bytes_facts.3)
      ∙ taken wanted.Times _ _ b.times _ (decimal_read 1 4294967295 b.times bytes_facts.4 bytes_facts.5 (omega (arith, bytes_facts.5)))
      ∙ rw size refl)

pub printed_is_read : PrintedIsRead
unfolding is_writable name_of arguments_of read_call is_same read_start read_write read_step read_corrupt read_colour whole meaning either kind_of kind_word is_word is_plain is_blank every
printed_is_read (Start true true) e = said_printed (Start true true) (dmg_word ∷ colour_word ∷ []) refl refl refl ∙ taken wanted.Device _ _ 1 _ refl ∙ taken wanted.Colour _ _ 1 _ refl
printed_is_read (Start true false) e = said_printed (Start true false) (dmg_word ∷ grey_word ∷ []) refl refl refl ∙ taken wanted.Device _ _ 1 _ refl ∙ taken wanted.Colour _ _ 0 _ refl
printed_is_read (Start false true) e = said_printed (Start false true) (cgb_word ∷ colour_word ∷ []) refl refl refl ∙ taken wanted.Device _ _ 0 _ refl ∙ taken wanted.Colour _ _ 1 _ refl
printed_is_read (Start false false) e = said_printed (Start false false) (cgb_word ∷ grey_word ∷ []) refl refl refl ∙ taken wanted.Device _ _ 0 _ refl ∙ taken wanted.Colour _ _ 0 _ refl
printed_is_read (Write address value) e =
    let facts = split (ltb address 65536) (ltb value 256) e in
    said_printed (Write address value) _ refl refl (both (digits_word 16 4 address (omega arith)) (both (digits_word 16 2 value (omega arith)) refl))
    ∙ taken wanted.Address _ _ address _ (address_read address (ltb-true _ _ facts.0))
    ∙ taken wanted.Value _ _ value _ (value_read value (ltb-true _ _ facts.1))
printed_is_read (Vram b) e = said_printed (Vram b) (bytes_words b) refl refl (bytes_words_law b e) ∙ bytes_said b e false
printed_is_read (Oam b) e = said_printed (Oam b) (bytes_words b) refl refl (bytes_words_law b e) ∙ bytes_said b e true
printed_is_read (Step cycles times) e =
    let facts = split (ltb cycles 256) (is_times times) e in
    let few : cycles < 256 = ltb-true _ _ facts.0 in
    let some : 1 ≤ times = leb-true _ _ (first (leb 1 times) (leb times 4294967295) facts.1) in
    let most : times ≤ 4294967295 = leb-true _ _ (second (leb 1 times) (leb times 4294967295) facts.1) in
    said_printed (Step cycles times) _ refl refl (both (decimal_word cycles) (both (decimal_word times) refl))
    ∙ taken wanted.Cycles _ _ cycles _ (decimal_read 0 255 cycles (omega arith) (omega arith) (omega arith))
    ∙ taken wanted.Times _ _ times _ (decimal_read 1 4294967295 times some most (omega arith))
printed_is_read (Corrupt zero) e = said_printed (Corrupt 0) (write_word ∷ []) refl refl refl ∙ taken wanted.Kind _ _ 0 _ refl
printed_is_read (Corrupt (suc zero)) e = said_printed (Corrupt 1) (read_word ∷ []) refl refl refl ∙ taken wanted.Kind _ _ 1 _ refl
printed_is_read (Corrupt (suc (suc zero))) e = said_printed (Corrupt 2) (read_write_word ∷ []) refl refl refl ∙ taken wanted.Kind _ _ 2 _ refl
printed_is_read (Corrupt (suc (suc (suc k)))) e = absurd (omega (arith, leb-true (suc (suc (suc k))) 2 e))
printed_is_read (Colour true) e = said_printed (Colour true) (on_word ∷ []) refl refl refl ∙ taken wanted.Switch _ _ 1 _ refl
printed_is_read (Colour false) e = said_printed (Colour false) (off_word ∷ []) refl refl refl ∙ taken wanted.Switch _ _ 0 _ refl

-- A CALL'S TEXT IN THE BUFFER

pub printed_fits : PrintedFits
unfolding printed name_of arguments_of spaced bytes_words kind_word
printed_fits (Start true true) = omega arith
printed_fits (Start true false) = omega arith
printed_fits (Start false true) = omega arith
printed_fits (Start false false) = omega arith
printed_fits (Write address value) = simp length-append (omega (arith, digits_length 16 4 address, digits_length 16 2 value))
printed_fits (Vram b) = simp length-append (omega (arith, digits_length 16 4 b.address, digits_length 16 (2 * min b.count 8) b.bytes, decimal_most b.times))
printed_fits (Oam b) = simp length-append (omega (arith, digits_length 16 4 b.address, digits_length 16 (2 * min b.count 8) b.bytes, decimal_most b.times))
printed_fits (Step cycles times) = simp length-append (omega (arith, decimal_most cycles, decimal_most times))
printed_fits (Corrupt kind) = simp length-append (omega (arith, kind_length))
  where
    kind_length : length (kind_word kind) ≤ 10
    kind_length =
        by_test (λ (w : List ℕ). length w ≤ 10) (eqb kind 0) (λ _. omega arith)
        (λ _. by_test (λ (w : List ℕ). length w ≤ 10) (eqb kind 1) (λ _. omega arith) (λ _. omega arith))
printed_fits (Colour true) = omega arith
printed_fits (Colour false) = omega arith

pub buffer_is : BufferIs
buffer_is call before after r front rest = sym (take-append-drop r after) ∙ rw (front, rest) refl
