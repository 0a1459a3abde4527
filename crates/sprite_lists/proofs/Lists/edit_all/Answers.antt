-- An edit more: the sets stay OAM's, and OAM by the law that true sets refuse no write that OAM takes.
use Rattle.std.proofs.Common.{◌≡◌, ℕ, ◌+◌, ◌*◌, ◌/◌, ◌<◌, List, [], length, get_or, refl, sym, ◌∙◌, ap, add-zero, add-one, arith}
use Rattle.line_sets.specs.Calls.{oam_after}
use Rattle.line_sets.proofs.Laws.{keeps_true, writes_as_before}
use Rattle.sprite_lists.specs.Edits.{edited}
use Rattle.sprite_lists.proofs.Chunks.{byte_of}
use Rattle.sprite_lists.proofs.Lists.edit_all.Goals as goal

-- OAM before any edit, and after one more
edited_none : (oam edits : List ℕ) → oam ≡ edited oam edits 0
unfolding edited
edited_none oam edits = refl

edited_next : (oam edits : List ℕ) (n : ℕ)
    → edited oam edits (n + 1) ≡ oam_after (edited oam edits n) (get_or edits (2 * n) 0) (get_or edits (2 * n + 1) 0)
unfolding edited
edited_next oam edits n = rw (add-one n) refl

next : (oam₀ edits : List ℕ) (n address value : ℕ) (oam oam' : List ℕ) → oam ≡ edited oam₀ edits n → address ≡ get_or edits (2 * n + 0) 0
    → value ≡ get_or edits (2 * n + 1) 0 → oam' ≡ oam_after oam address value → oam' ≡ edited oam₀ edits (n + 1)
next oam₀ edits n address value oam oam' o a v e = e ∙ rw (o, a, v, add-zero (2 * n)) (sym (edited_next oam₀ edits n))

pub loop-edit-init : goal.loop-edit-init
loop-edit-init g c = record { height = refl; edited_so = edited_none c.args.self.now.oam c.args.edits.now }

pub invariant_of-self : goal.invariant_of-self
invariant_of-self g c =
    let lists = c.loop-edit.self in
    record { is_tall = lists.is_tall; are_true = (keeps_true _ _ _ _ _ _ _ _ c.write_oam.ensures lists.are_true).0 }

pub loop-edit-preserved : goal.loop-edit-preserved
loop-edit-preserved g c =
    let lists = c.loop-edit.self in
    let i = c.loop-edit.invariant in
    let w = c.write_oam.ensures in
    let pairs = c.as_chunks.result.0.now in
    let edits = c.args.edits.now in
    let edit = c.loop-edit.edit in
    let byte : (j : ℕ) → j < 2 → get_or (get_or pairs edit []) j 0 ≡ get_or edits (2 * edit + j) 0 =
    λ j l. ap (λ (ps : List (List ℕ)). get_or (get_or ps edit []) j 0) c.as_chunks.ensures.front
    ∙ byte_of 2 (length edits / 2) edits edit j (omega arith) l in
    record {
      height = i.height;
      edited_so = next _ _ _ _ _ _ _ i.edited_so (c.from-address.ensures ∙ byte 0 (omega arith)) (byte 1 (omega arith))
          (writes_as_before _ _ _ _ _ _ _ _ w lists.are_true (omega arith) lists.is_tall);
    }
