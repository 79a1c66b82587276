-- Each refusal but Failed and NoMemory rules out that the board is accepted, and each other refusal.
use Rattle.std.proofs.Common.{◌≡◌, ◌⊎◌, ◌∙◌, ◌<◌, ◌≤◌, inl, inr, ⊎_elim, ℕ, Bool, true, false, List, Err, get_or, refl, sym, ap, arith}
use Rattle.std.proofs.lemmas.Bool.{true≢false, cases_lt, cases_Bool}
use Rattle.rig.specs.Devices.{Devices, Sizes}
use Rattle.rig.specs.declared.rig.Rig.{Ghosts}
use Rattle.nvram_map.specs.Boards.{IsTold}
use Rattle.nvram_map.specs.Overlay.{entries}
use Rattle.nvram_map.specs.Words.{AreEntries, IsGood, IsFirstBad}
use Rattle.nvram_map.specs.declared.fault.BoardFault.{BoardFault}
use Rattle.nvram_map.specs.declared.fault.BoardFault.TheVariants as board
use Rattle.presto_unit.specs.Opening.{IsNamed, IsOpenable}
use Rattle.presto_recover.specs.Boards.{IsAccepted}
use Rattle.presto_recover.specs.Refused.{IsReason, IsBoardRefused, HasOtherName, HasTwoNames, name_bytes}
use Rattle.presto_recover.specs.declared.fault.OpenFault.{OpenFault}
use Rattle.presto_recover.specs.declared.fault.OpenFault.TheVariants as fault

good : (sizes : Sizes) (d : Devices) (i : ℕ) → AreEntries sizes (entries d) → IsGood sizes (entries d) i
good sizes d i are = record {
  entry = are.each i;
  sector = λ j lt a b. are.sectors i j (λ e. omega (arith, e, lt)) a b;
  buffer = λ j lt a b. are.buffers i j (λ e. omega (arith, e, lt)) a b;
}

-- of two damaged entries that are the first, one isn't lower
first_not_lower : (sizes : Sizes) (words : List ℕ) (i j : ℕ) → IsFirstBad sizes words i → IsFirstBad sizes words j → i < j → ⊥
first_not_lower sizes words i j one other lt = one.bad (other.lower i lt)

same_first : (sizes : Sizes) (words : List ℕ) (i j : ℕ) → IsFirstBad sizes words i → IsFirstBad sizes words j → i ≡ j
same_first sizes words i j one other = ⊎_elim
    (λ lt. absurd (first_not_lower sizes words i j one other lt))
    (λ ge. ⊎_elim (λ lt. absurd (first_not_lower sizes words j i other one lt)) (λ le. omega (arith, ge, le)) (cases_lt j i))
    (cases_lt i j)

module _ {tells : Type 0} (sizes : Sizes) (accepted : Bool) (d : Devices) (tell : tells) where
  -- a board that is the volume's isn't refused
  named_stands : (kept : Bool) (why : BoardFault) → kept ≡ true → IsNamed sizes d → IsBoardRefused tells sizes kept accepted d why → ⊥
  named_stands kept board.Lost is named why = true≢false (sym is ∙ why.0)
  named_stands kept (board.NotFormatted word) is named why = let told = why.1 tell in told.2 (told.1 ∙ named.board.marked)
  named_stands kept (board.WrongVolume name volume) is named why = ⊎_elim
      (λ other. other.told.2 named.board.named)
      (λ two. two.differ (two.volume_is ∙ named.same ∙ sym two.name_is))
      (why.1 tell)
  named_stands kept (board.BadEntry index word) is named why = (why.1 tell).4.bad (good sizes d index named.board.entries_are)
  named_stands kept board.Failed is named why = why
  named_stands kept board.NoMemory is named why = why

  -- nor is a lost one whose loss is accepted
  lost_stands : (kept : Bool) (why : BoardFault) → kept ≡ false → accepted ≡ true → IsBoardRefused tells sizes kept accepted d why → ⊥
  lost_stands kept board.Lost is asked why = true≢false (sym asked ∙ why.1)
  lost_stands kept (board.NotFormatted word) is asked why = true≢false (sym why.0 ∙ is)
  lost_stands kept (board.WrongVolume name volume) is asked why = true≢false (sym why.0 ∙ is)
  lost_stands kept (board.BadEntry index word) is asked why = true≢false (sym why.0 ∙ is)
  lost_stands kept board.Failed is asked why = why
  lost_stands kept board.NoMemory is asked why = why

  -- the names of a board that is refused for them
  wrong_apart : (name volume name2 volume2 : List ℕ) → HasOtherName sizes d name volume → HasTwoNames sizes d name2 volume2 → ⊥
  wrong_apart name volume name2 volume2 other two = other.told.2 two.board_is.named

  same_names : (name volume name2 volume2 : List ℕ) → HasOtherName sizes d name volume ⊎ HasTwoNames sizes d name volume → HasOtherName sizes d name2 volume2 ⊎ HasTwoNames sizes d name2 volume2
      → board.WrongVolume name volume ≡ board.WrongVolume name2 volume2
  same_names name volume name2 volume2 (inl a) (inl b) = ap (λ n. board.WrongVolume n volume) (a.told.3 ∙ sym b.told.3) ∙ ap (λ v. board.WrongVolume name2 v) (a.volume_is ∙ sym b.volume_is)
  same_names name volume name2 volume2 (inl a) (inr b) = absurd (wrong_apart name volume name2 volume2 a b)
  same_names name volume name2 volume2 (inr a) (inl b) = absurd (wrong_apart name2 volume2 name volume b a)
  same_names name volume name2 volume2 (inr a) (inr b) = ap (λ n. board.WrongVolume n volume) (a.name_is ∙ sym b.name_is) ∙ ap (λ v. board.WrongVolume name2 v) (a.volume_is ∙ sym b.volume_is)

  unmarked : (word : ℕ) (name volume : List ℕ) → IsTold sizes (name_bytes d.disk) d (Err (board.NotFormatted word)) → HasOtherName sizes d name volume ⊎ HasTwoNames sizes d name volume → ⊥
  unmarked word name volume told (inl other) = told.2 (told.1 ∙ other.told.1)
  unmarked word name volume told (inr two) = told.2 (told.1 ∙ two.board_is.marked)

  damaged : (index word : ℕ) (name volume : List ℕ) → IsTold sizes (name_bytes d.disk) d (Err (board.BadEntry index word)) → HasOtherName sizes d name volume ⊎ HasTwoNames sizes d name volume → ⊥
  damaged index word name volume told (inl other) = other.told.2 told.2
  damaged index word name volume told (inr two) = told.4.bad (good sizes d index two.board_is.entries_are)

  one_board : (kept : Bool) (why other : BoardFault) → IsBoardRefused tells sizes kept accepted d why → IsBoardRefused tells sizes kept accepted d other → why ≡ other
  one_board kept board.Lost board.Lost a b = refl
  one_board kept board.Lost (board.NotFormatted v) a b = absurd (true≢false (sym b.0 ∙ a.0))
  one_board kept board.Lost (board.WrongVolume n v) a b = absurd (true≢false (sym b.0 ∙ a.0))
  one_board kept board.Lost (board.BadEntry i v) a b = absurd (true≢false (sym b.0 ∙ a.0))
  one_board kept board.Lost board.Failed a b = absurd b
  one_board kept board.Lost board.NoMemory a b = absurd b
  one_board kept (board.NotFormatted w) board.Lost a b = absurd (true≢false (sym a.0 ∙ b.0))
  one_board kept (board.NotFormatted w) (board.NotFormatted v) a b = ap board.NotFormatted ((a.1 tell).1 ∙ sym (b.1 tell).1)
  one_board kept (board.NotFormatted w) (board.WrongVolume n v) a b = absurd (unmarked w n v (a.1 tell) (b.1 tell))
  one_board kept (board.NotFormatted w) (board.BadEntry i v) a b = absurd ((a.1 tell).2 ((a.1 tell).1 ∙ (b.1 tell).1))
  one_board kept (board.NotFormatted w) board.Failed a b = absurd b
  one_board kept (board.NotFormatted w) board.NoMemory a b = absurd b
  one_board kept (board.WrongVolume n w) board.Lost a b = absurd (true≢false (sym a.0 ∙ b.0))
  one_board kept (board.WrongVolume n w) (board.NotFormatted v) a b = absurd (unmarked v n w (b.1 tell) (a.1 tell))
  one_board kept (board.WrongVolume n w) (board.WrongVolume m v) a b = same_names n w m v (a.1 tell) (b.1 tell)
  one_board kept (board.WrongVolume n w) (board.BadEntry i v) a b = absurd (damaged i v n w (b.1 tell) (a.1 tell))
  one_board kept (board.WrongVolume n w) board.Failed a b = absurd b
  one_board kept (board.WrongVolume n w) board.NoMemory a b = absurd b
  one_board kept (board.BadEntry i w) board.Lost a b = absurd (true≢false (sym a.0 ∙ b.0))
  one_board kept (board.BadEntry i w) (board.NotFormatted v) a b = absurd ((b.1 tell).2 ((b.1 tell).1 ∙ (a.1 tell).1))
  one_board kept (board.BadEntry i w) (board.WrongVolume n v) a b = absurd (damaged i w n v (a.1 tell) (b.1 tell))
  one_board kept (board.BadEntry i w) (board.BadEntry j v) a b =
      let same = same_first sizes (entries d) i j (a.1 tell).4 (b.1 tell).4 in
      ap (λ k. board.BadEntry k w) same ∙ ap (λ x. board.BadEntry j x) ((a.1 tell).3 ∙ ap (λ k. get_or (entries d) k 0) same ∙ sym (b.1 tell).3)
  one_board kept (board.BadEntry i w) board.Failed a b = absurd b
  one_board kept (board.BadEntry i w) board.NoMemory a b = absurd b
  one_board kept board.Failed other a b = absurd a
  one_board kept board.NoMemory other a b = absurd a

-- a device failed, or memory was short
abbrev pub IsShort : OpenFault → Type 0
IsShort why = (why ≡ fault.Failed) ⊎ (why ≡ fault.NoMemory)

module _ {R : Type 0} (r : Ghosts R) (accepted : Bool) (found : R) (tells : r.tells) where
  -- what is refused isn't accepted
  pub refused_not_accepted : (told : (rig : R) → r.tells → (r.contents rig).kept ≡ r.is_kept rig) (back : R) (lost : Bool) (why : OpenFault) → IsReason r accepted found back why → IsAccepted (r.sizes found) accepted (r.contents found) lost → IsShort why
  refused_not_accepted told back lost (fault.NoSuper sectors) why stands = absurd (omega (arith, why.0, why.1, stands.sectors))
  refused_not_accepted told back lost (fault.Board is) why stands = ⊎_elim
      (λ gone. absurd (lost_stands (r.sizes found) accepted (r.contents found) tells (r.is_kept found) is (sym (told found tells) ∙ gone.1) gone.2 why.1))
      (λ here. ⊎_elim
      (λ none. absurd (omega (arith, none, why.0.1)))
      (λ named. absurd (named_stands (r.sizes found) accepted (r.contents found) tells (r.is_kept found) is (sym (told found tells) ∙ here.1) named why.1))
      (stands.named here.0))
      stands.loss
  refused_not_accepted told back lost fault.Failed why stands = inl refl
  refused_not_accepted told back lost fault.NoMemory why stands = inr refl

  -- nor is what can be opened, but for a loss that isn't accepted
  pub openable_not_refused : (told : (rig : R) → r.tells → (r.contents rig).kept ≡ r.is_kept rig) (back : R) (why : OpenFault) → 2 ≤ (r.sizes found).sectors → (accepted ≡ true) ⊎ (r.is_kept found ≡ true)
      → IsOpenable (r.sizes found) (r.contents found) → IsReason r accepted found back why → IsShort why
  openable_not_refused told back why some stands opens reason = case opens (cases_Bool (r.is_kept found))
    where
      accept : (lost : Bool) → IsAccepted (r.sizes found) accepted (r.contents found) lost → IsShort why
      accept lost is = refused_not_accepted told back lost why reason is

      kept_asked : r.is_kept found ≡ false → accepted ≡ true
      kept_asked gone = ⊎_elim (λ asked. asked) (λ kept. absurd (true≢false (sym kept ∙ gone))) stands

      gone_or_named : (r.is_kept found ≡ true → (r.sizes found).buffers ≡ 0 ⊎ IsNamed (r.sizes found) (r.contents found)) → (r.is_kept found ≡ true) ⊎ (r.is_kept found ≡ false) → IsShort why
      gone_or_named named (inl kept) = accept false record { sectors = some; loss = inr (refl, told found tells ∙ kept); named = λ _. named kept }
      gone_or_named named (inr gone) = accept true record { sectors = some; loss = inl (refl, told found tells ∙ gone, kept_asked gone); named = λ lost. absurd (true≢false lost) }

      case : IsOpenable (r.sizes found) (r.contents found) → (r.is_kept found ≡ true) ⊎ (r.is_kept found ≡ false) → IsShort why
      case (inl none) either = gone_or_named (λ kept. inl none) either
      case (inr (inl lost)) either = gone_or_named (λ kept. absurd (true≢false (sym kept ∙ sym (told found tells) ∙ lost))) either
      case (inr (inr named)) either = gone_or_named (λ kept. inr named) either

  -- and there is one reason
  pub one_reason : (back back2 : R) (why other : OpenFault) → IsReason r accepted found back why → IsReason r accepted found back2 other → (why ≡ other) ⊎ IsShort why ⊎ IsShort other
  one_reason back back2 (fault.NoSuper n) (fault.NoSuper m) a b = inl (ap fault.NoSuper (a.0 ∙ sym b.0))
  one_reason back back2 (fault.NoSuper n) (fault.Board w) a b = absurd (omega (arith, a.0, a.1, b.0.0))
  one_reason back back2 (fault.Board w) (fault.NoSuper m) a b = absurd (omega (arith, b.0, b.1, a.0.0))
  one_reason back back2 (fault.Board w) (fault.Board v) a b = inl (ap fault.Board (one_board (r.sizes found) accepted (r.contents found) tells (r.is_kept found) w v a.1 b.1))
  one_reason back back2 fault.Failed other a b = inr (inl (inl refl))
  one_reason back back2 fault.NoMemory other a b = inr (inl (inr refl))
  one_reason back back2 (fault.NoSuper n) fault.Failed a b = inr (inr (inl refl))
  one_reason back back2 (fault.NoSuper n) fault.NoMemory a b = inr (inr (inr refl))
  one_reason back back2 (fault.Board w) fault.Failed a b = inr (inr (inl refl))
  one_reason back back2 (fault.Board w) fault.NoMemory a b = inr (inr (inr refl))
