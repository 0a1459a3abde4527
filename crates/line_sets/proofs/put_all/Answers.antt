-- `line_sets::put_all` meets its contract.
use Rattle.std.proofs.Common.{◌≡◌, ℕ, ◌+◌, ◌<◌, Bool, true, false, cond, ◌&&◌, eqb, List, length, replicate, sym, refl, ap, ◌∙◌, arith, le-ltb, lt-ltb, eqb-true}
use lib.ListN.{length-replicate, get_or-replicate}
use borrow.Author.Tests.{eqb-false}
use Rattle.wrap.specs.Wrap.{bit_at}
use Rattle.hardware.specs.Screen.{height}
use Rattle.sprite.specs.Oam.{entry}
use Rattle.sprite.specs.Pick.{touches}
use Rattle.line_sets.specs.Sets.{entries, set_of, put}
use Rattle.line_sets.specs.Lines.{touching, built, put_lines}
use Rattle.line_sets.specs.Numbers.{are_sets}
use Rattle.line_sets.proofs.Bits.{bit_of, bits_same}
use Rattle.line_sets.proofs.InOut.{bits_none}
use Rattle.line_sets.proofs.Lines.{ltb_more, per_line_law, are_sets_all}
use Rattle.line_sets.proofs.Moves.{set_of_law, put_lines_length, put_lines_at}
use Rattle.line_sets.proofs.put_all.Invariants.{Has, firsts}
use Rattle.line_sets.proofs.put_all.Goals as goal

has_none : (oam : List ℕ) (tall : ℕ) (sets : List ℕ) → sets ≡ replicate height 0 → Has oam tall 0 sets
has_none oam tall sets e =
    record {
      sized = rw e (length-replicate {A = ℕ} height 0);
      each =
          λ line h.
          rw e (get_or-replicate height line 0 0 h)
          ∙ sym (bits_none (firsts oam line tall 0) entries (λ j l. ap (λ (b : Bool). b && touches oam line tall j) (le-ltb j 0 (omega arith))));
    }

-- entry n, put in where it touches the line
one_more : (oam : List ℕ) (line tall n : ℕ) → n < entries
    → cond (touches oam line tall n) (put n true (set_of (firsts oam line tall n))) (set_of (firsts oam line tall n))
    ≡ set_of (firsts oam line tall (n + 1))
one_more oam line tall n h = by (touches oam line tall n) refl
  where
    next : (t : Bool) → touches oam line tall n ≡ t → (j : ℕ) → cond (eqb j n) t (firsts oam line tall n j) ≡ firsts oam line tall (n + 1) j
    next t e j = own (eqb j n) refl
      where
        own : (v : Bool) → eqb j n ≡ v → cond v t (firsts oam line tall n j) ≡ firsts oam line tall (n + 1) j
        own true s = let same = eqb-true j n s in rw (same, lt-ltb n (n + 1) (omega arith)) (sym e)
        own false s = ap (λ (b : Bool). b && touches oam line tall j) (sym (ltb_more j n (eqb-false j n s)))

    none : touches oam line tall n ≡ false → (j : ℕ) → firsts oam line tall n j ≡ cond (eqb j n) false (firsts oam line tall n j)
    none e j = own (eqb j n) refl
      where
        own : (v : Bool) → eqb j n ≡ v → firsts oam line tall n j ≡ cond v false (firsts oam line tall n j)
        own true s = let same = eqb-true j n s in rw (same, le-ltb n n (omega arith))
        own false s = refl

    by : (t : Bool) → touches oam line tall n ≡ t
        → cond t (put n true (set_of (firsts oam line tall n))) (set_of (firsts oam line tall n)) ≡ set_of (firsts oam line tall (n + 1))
    by true e =
        bits_same (λ j. cond (eqb j n) true (bit_at (set_of (firsts oam line tall n)) j)) (firsts oam line tall (n + 1)) entries
        (λ j l. ap (λ (b : Bool). cond (eqb j n) true b) (bit_of (firsts oam line tall n) entries j l) ∙ next true e j)
    by false e = bits_same (firsts oam line tall n) (firsts oam line tall (n + 1)) entries (λ j l. none e j ∙ next false e j)

module _ (oam : List ℕ) (tall n : ℕ) (sets : List ℕ) (w : Has oam tall n sets) where
  has_sets : (y : ℕ) → are_sets sets y tall ≡ true
  has_sets y = are_sets_all sets y tall (λ line h r. rw (w.each line h) (set_of_law (firsts oam line tall n)))

  has_more : n < entries → Has oam tall (n + 1) (put_lines n true (entry oam n).y tall sets)
  has_more l =
      record {
        sized = put_lines_length n true (entry oam n).y tall sets;
        each = λ line h. put_lines_at n true (entry oam n).y tall sets line h ∙ rw (w.each line h) (one_more oam line tall n l);
      }

  has_all : n ≡ entries → sets ≡ built oam tall
  unfolding built
  has_all e =
      per_line_law (touching oam tall) sets w.sized
      (λ line h. w.each line h ∙ bits_same (firsts oam line tall n) (touches oam line tall) entries
      (λ j l. ap (λ (b : Bool). b && touches oam line tall j) (lt-ltb j n (omega (arith, l, e)))))

pub loop-i-init : goal.loop-i-init
loop-i-init c =
    let sized : length c.args.sets.now ≡ height = omega arith in
    (omega arith, has_none _ _ _ (c.fill.ensures.after (λ y e. e) ∙ rw sized))

pub put_lines-requires : goal.put_lines-requires
put_lines-requires c =
    let w = c.loop-i.invariant.1 in
    (omega arith, has_sets _ _ _ _ w _)

pub loop-i-preserved : goal.loop-i-preserved
loop-i-preserved c =
    (omega arith, rw (c.put_lines.ensures, c.at-sprite.ensures) (has_more _ _ _ _ c.loop-i.invariant.1 (omega arith)))

pub returns : goal.returns
returns c = has_all _ _ _ _ c.loop-i.invariant.1 (omega arith)
