-- A rig that is ready for a volume, and one on which it was made.
use Rattle.std.proofs.Common.{arith, ◌≡◌, ◌⊎◌, ◌∙◌, inl, inr, ⊎_elim, ℕ, ◌+◌, ◌^◌, ◌<◌, ◌≤◌, true, List, [], ◌++◌, length, take, drop, get_or, Result, Ok, Err, OnOk, refl, sym, ap, subst}
use Rattle.std.proofs.lemmas.Bool.{true≢false}
use Rattle.std.proofs.lemmas.List.{get_or-set_same}
use Rattle.stable.specs.Counts.{Rose}
use Rattle.stable.specs.Moments.{IsClocked}
use Rattle.stable.specs.States.{SomePuts}
use Rattle.stable.specs.Store.{Image, name_in}
use Rattle.stable.specs.declared.snapshot.Snapshot.{Snapshot}
use Rattle.stable.specs.declared.store.Stable.{Ghosts as StoreGhosts}
use Rattle.stable.specs.declared.state.State.TheVariants.{Up, Down}
use Rattle.rig.specs.Devices.{Devices, Sizes, HasShape, IsBoard, with_kept, with_sector}
use Rattle.rig.specs.declared.rig.Rig.{Ghosts}
use Rattle.nvram_map.specs.Formats.{formatted}
use Rattle.nvram_map.specs.Overlay.{overlay, NoEntry}
use Rattle.nvram_map.specs.Words.{name_word, IsBoardOf}
use Rattle.nvram_map.proofs.Shapes.{shape_now}
use Rattle.presto_cache.specs.Made.{AreReadFrom}
use Rattle.presto_unit.specs.Opening.{IsOpenable}
use Rattle.presto_unit.specs.Parts.{rig_of, state_of}
use Rattle.presto_unit.specs.declared.presto.Presto.{Presto}
use Rattle.presto_recover.proofs.Emptied.{formatted_board, formatted_read, marked_overlay}
use Rattle.v7_layout.specs.Numbers.{part}
use Rattle.v7_layout.specs.Records.{super_of}
use Rattle.v7_layout.specs.declared.super_block.Super.{Super}
use Rattle.v7_layout.proofs.Parts.{part-splice}
use Rattle.v7_map.specs.Image.{sector_at}
use Rattle.v7_make.specs.Made.{IsMade, IsAnswered}
use Rattle.v7_make.specs.Sizes.{fitting, list_blocks}
use Rattle.v7_make.specs.declared.fault.MakeFault.{MakeFault}
use Rattle.v7_make.specs.declared.fault.MakeFault.TheVariants as make
use Rattle.run_lines.specs.Overlays.{overlay_of}
use Rattle.run_lines.proofs.Overlays.{opens_now}
use Rattle.volume_tool.specs.Made.{HasEmptyBoard, HasMade, IsReady, MakesOn, MakesUnit}
use Rattle.volume_tool.specs.Words.{Plan}

-- a super-block with that name
pub titled_name : (bytes name : List ℕ) → length bytes ≡ 512 → length name ≡ 6 → name_in (take 434 bytes ++ name ++ drop (434 + length name) bytes) ≡ name
unfolding part
titled_name bytes name long six =
    ap (λ (n : ℕ). take n (drop 434 (take 434 bytes ++ name ++ drop (434 + length name) bytes))) (sym six) ∙ part-splice bytes name 434 (omega (arith, long, six))

-- a board that was formatted for the name that is on the disk, and marked as kept
module _ (name : List ℕ) (d : Devices) (named : name_in (get_or d.disk 1 []) ≡ name) where
  abbrev marked : Devices
  marked = with_kept (formatted (name_word name) d)

  shows : name_in (get_or (overlay marked) 1 []) ≡ name_in (get_or d.disk 1 [])
  shows = ap (λ (i : Image). name_in (get_or i 1 [])) (marked_overlay (name_word name) d)

  pub board_opens : (sizes : Sizes) → IsOpenable sizes marked
  board_opens sizes = inr (inr (record {
    board = subst (λ (n : ℕ). IsBoardOf sizes n marked) (sym (ap name_word named)) (formatted_board (name_word name) d sizes);
    same = shows;
  }))

  pub board_titled : name_in (get_or (overlay marked) 1 []) ≡ name
  board_titled = shows ∙ named

-- a call that marks it is done where it answers Ok
pub once_done : {E T A B P : Type 0} (result : Result (Unit {0}) E) → (T → OnOk result A) → OnOk result B → ((T → A) → B → P) → OnOk result P
once_done (Ok _) done kept ready = ready done kept
once_done (Err _) done kept ready = tt

module _ {R : Type 0} (r : Ghosts R) (clocked : IsClocked r.tells r.contents r.moment r.left_since) (shape : (rig : R) (t : ℕ) (d : Devices) → r.left_since rig t d → HasShape (r.sizes rig) d) (board : (rig : R) → IsBoard (r.sizes rig) (r.is_kept rig)) where
  -- the sector that a disk has
  pub disk_named : (rig mid : R) (bytes name : List ℕ) → name_in bytes ≡ name → 2 ≤ (r.sizes rig).sectors → (r.tells → r.contents mid ≡ with_sector (r.contents rig) 1 bytes) → r.tells → name_in (get_or (r.contents mid).disk 1 []) ≡ name
  disk_named rig mid bytes name titled two done tells =
      let long = (shape_now clocked shape rig tells).disk in
      ap (λ (d : Devices). name_in (get_or d.disk 1 [])) (done tells) ∙ ap name_in (get_or-set_same (r.contents rig).disk 1 bytes [] (omega (arith, long, two))) ∙ titled

  -- the rig is ready then
  pub ready_board : (mid rig : R) (name : List ℕ) → (r.tells → name_in (get_or (r.contents mid).disk 1 []) ≡ name) → 0 < (r.sizes rig).buffers → (r.sizes rig).sectors ≤ 2 ^ 32
      → (r.tells → r.contents rig ≡ with_kept (formatted (name_word name) (r.contents mid))) → r.is_kept rig ≡ true → IsReady r name rig
  ready_board mid rig name named some few done kept = record {
    kept = kept;
    read = λ tells.
        let shaped : HasShape (r.sizes rig) (with_kept (formatted (name_word name) (r.contents mid))) = subst (λ (d : Devices). HasShape (r.sizes rig) d) (done tells) (shape_now clocked shape rig tells) in
        subst (λ (d : Devices). AreReadFrom (r.sizes rig) [] d) (sym (done tells)) (formatted_read (name_word name) (r.contents mid) (r.sizes rig) (r.is_kept rig) shaped (board rig) some few);
    opens = λ tells. subst (λ (d : Devices). IsOpenable (r.sizes rig) d) (sym (done tells)) (board_opens name (r.contents mid) (named tells) (r.sizes rig));
    titled = λ tells _. ap (λ (d : Devices). name_in (get_or (overlay d) 1 [])) (done tells) ∙ board_titled name (r.contents mid) (named tells);
  }

-- the name of a volume that was made
pub made_name : (image : Image) (size isize : ℕ) (pack : List ℕ) (now left : ℕ) → IsMade image size isize pack now left → name_in (sector_at image 1) ≡ pack
unfolding super_of part
made_name image size isize pack now left is = ap (λ (s : Super). s.s_fpack) is.super

-- its board, which can be opened and has no entry
pub made_board : (sizes : Sizes) (name : List ℕ) (d : Devices) → IsOpenable sizes d → 0 < sizes.buffers → d.kept ≡ true → NoEntry d → name_in (get_or (overlay d) 1 []) ≡ name → HasEmptyBoard sizes name d
made_board sizes name d (inl none) some kept empty titled = absurd (omega (arith, none, some))
made_board sizes name d (inr (inl lost)) some kept empty titled = absurd (true≢false (sym kept ∙ lost))
made_board sizes name d (inr (inr named)) some kept empty titled = record {
  board_is = subst (λ (n : ℕ). IsBoardOf sizes n d) (ap name_word (sym named.same ∙ titled)) named.board;
  empty = empty;
  kept = kept;
}

-- what making answers of a store
pub makes_unit : {V : Type 0} (s : StoreGhosts V) (plan : Plan) {old new : V} (result : Result ℕ MakeFault) → fitting plan.size plan.inodes ≡ Ok tt → IsAnswered s plan.size plan.inodes old new result → MakesUnit plan (s.faults old) (s.faults new) result
makes_unit s plan (Ok left) fits answered = answered.says.1
makes_unit s plan (Err make.Failed) fits answered = answered.says.1
makes_unit s plan (Err make.NoMemory) fits answered = tt
makes_unit s plan (Err make.TooLarge) fits answered = let e = sym fits ∙ answered.says.0 in absurd (cc e)
makes_unit s plan (Err (make.TooSmall need have)) fits answered = let e = sym fits ∙ answered.says.0 in absurd (cc e)

-- what puts leave of the state
pub puts_state : {count before now : ℕ} {old new : Snapshot} → SomePuts count before now old new → (new.state ≡ old.state) ⊎ (old.state ≡ Up)
puts_state puts = ⊎_elim (λ same. inl same) (λ failed. inr failed.0) puts.made.state

-- and of the unit on the rig
module _ {R : Type 0} (r : Ghosts R) (clocked : IsClocked r.tells r.contents r.moment r.left_since) (kept_told : (rig : R) → r.tells → (r.contents rig).kept ≡ r.is_kept rig) (plan : Plan) {rig : R} (ready : IsReady r plan.name rig)
    (buffers : (r.sizes rig).buffers ≡ plan.buffers) (unit unit' : Presto R r) (on : rig_of unit ≡ rig) (down : r.tells → state_of unit ≡ Down) (bare : r.tells → state_of unit' ≡ Down → NoEntry (r.contents (rig_of unit'))) where
  abbrev back : R
  back = rig_of unit'

  has_board : 0 < plan.buffers → 0 < (r.sizes (rig_of unit)).buffers
  has_board some = subst (λ (one : R). 0 < (r.sizes one).buffers) (sym on) (omega (arith, some, buffers))

  module _ {result : Result ℕ MakeFault} (has : HasMade plan unit unit' result) where
    -- it is DOWN still
    still_down : r.tells → state_of unit' ≡ Down
    still_down tells = ⊎_elim (λ same. same ∙ down tells) (λ failed. let e = sym (down tells) ∙ failed in absurd (cc e)) has.state

    open_now : r.tells → 0 < plan.buffers → IsOpenable (r.sizes back) (r.contents back)
    open_now tells some =
        let was : IsReady r plan.name (rig_of unit) = subst (λ (one : R). IsReady r plan.name one) (sym on) ready in
        let since = has.opens tells (was.titled tells (has_board some)) (opens_now r clocked (rig_of unit) (was.opens tells)) in
        since (r.contents back) (clocked.now back (r.moment (rig_of unit)) tells has.later) (r.contents back) (inl refl)

    board : r.tells → (left : ℕ) → IsMade (overlay_of r back) plan.size (2 + list_blocks plan.inodes) plan.name plan.second left → 0 < plan.buffers → HasEmptyBoard (r.sizes back) plan.name (r.contents back)
    board tells left is some =
        made_board (r.sizes back) plan.name (r.contents back) (open_now tells some) (has.board (has_board some)) (kept_told back tells ∙ unit'.knows.kept) (bare tells (still_down tells))
        (made_name (overlay_of r back) plan.size (2 + list_blocks plan.inodes) plan.name plan.second left is)

  pub makes_on : (result : Result ℕ MakeFault) → HasMade plan unit unit' result → MakesOn r plan rig back result
  makes_on (Ok left) has = record { volume = has.made; board = λ tells. board has tells left (has.made tells); left_is = has.says }
  makes_on (Err make.Failed) has = subst (λ (one : R). Rose (r.faults one) (r.faults back)) on has.says
  makes_on (Err make.NoMemory) has = tt
  makes_on (Err make.TooLarge) has = absurd has.says
  makes_on (Err (make.TooSmall need have)) has = absurd has.says
