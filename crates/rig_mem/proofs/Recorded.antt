-- What one more change does to what a crash may leave.
use Rattle.std.proofs.Common.{◌≡◌, ◌⊎◌, inl, inr, ⊎_elim, ℕ, zero, suc, Bool, true, false, if◌then◌else◌, get_or, set, ◌+◌, ◌-◌, ◌≤◌, List, [], ◌∷◌, ◌++◌, length, reverse, refl, sym, ◌∙◌, ap, subst, arith, length-append}
use Rattle.std.proofs.lemmas.List.{reverse-append, set-get_or, length-set}
use Rattle.rig.specs.Devices.{Devices, HasShape, sizes_of, with_sector, with_word, with_buffer, with_kept, SectorOldOrNew, WordOldOrNew, BufferAny, KeptOldOrTrue}
use Rattle.rig_mem.specs.Histories.{LeftSince, undone, Cut}
use Rattle.rig_mem.specs.Rigs.{mem_contents, mem_moment, mem_left_since}
use Rattle.rig_mem.specs.Images.{more_left, mem_only_now, mem_wider}
use Rattle.stable.specs.Moments.{LeavesOnly}
use Rattle.rig_mem.specs.declared.change.Change.{Change}
use Rattle.rig_mem.specs.declared.change.Change.TheVariants.{Sector, Word, Buffer, Kept}
use Rattle.rig_mem.specs.declared.mem_rig.MemRig.{MemRig}

pub record SameSizes (a b : MemRig) : Type 0 where
  pub disk : length b.disk.items ≡ length a.disk.items
  pub words : length b.words.items ≡ length a.words.items
  pub buffers : length b.buffers.items ≡ length a.buffers.items

-- the image is as whole for one as for the other
reshape : (a b : MemRig) (d : Devices) → SameSizes a b → HasShape (sizes_of a.disk.items a.words.items a.buffers.items) d → HasShape (sizes_of b.disk.items b.words.items b.buffers.items) d
reshape a b d same shape = record {
  disk = shape.disk ∙ sym same.disk;
  words = shape.words ∙ sym same.words;
  buffers = shape.buffers ∙ sym same.buffers;
  each_sector = λ i lt. shape.each_sector i (omega (arith, same.disk, lt));
  each_word = shape.each_word;
  each_buffer = λ i lt. shape.each_buffer i (omega (arith, same.buffers, lt));
}

-- one change more
pub pushed : (a b : MemRig) (change : Change) (P : Devices → Type 0) → b.history.changes.items ≡ a.history.changes.items ++ change ∷ [] → b.history.start ≡ a.history.start → SameSizes a b
    → undone change (mem_contents b) ≡ mem_contents a → P (mem_contents a) → P (mem_contents b) → ((d : Devices) → Cut change (mem_contents b) d → P d)
    → LeavesOnly mem_moment mem_left_since a b P
pushed a b change P more same_start same back old new cut = record {
  later = omega (arith, long, same_start);
  each = λ d left. each d (one d left.0);
  before = λ t d le left. before t d le left;
  keeps = λ t d le left. (all t d le (inr (inr left.0)), reshape a b d same left.1);
  wider = λ t d le left. (more_left _ _ _ _ d (omega (arith, le)) left.0, left.1);
}
  where
    long : length b.history.changes.items ≡ length a.history.changes.items + 1
    long = ap length more ∙ length-append a.history.changes.items (change ∷ [])

    rev : reverse b.history.changes.items ≡ change ∷ reverse a.history.changes.items
    rev = ap reverse more ∙ reverse-append a.history.changes.items (change ∷ [])

    steps : (t : ℕ) → t ≤ mem_moment a → mem_moment b - t ≡ suc (mem_moment a - t)
    steps t le = omega (arith, long, same_start, le)

    none : (d : Devices) → LeftSince (mem_moment a - mem_moment a) (reverse a.history.changes.items) (mem_contents a) d → d ≡ mem_contents a
    none d left =
        let zero_left : mem_moment a - mem_moment a ≡ 0 = omega arith in
        subst (λ (n : ℕ). LeftSince n (reverse a.history.changes.items) (mem_contents a) d) zero_left left

    split : (t : ℕ) (d : Devices) → t ≤ mem_moment a → LeftSince (mem_moment b - t) (reverse b.history.changes.items) (mem_contents b) d
        → (d ≡ mem_contents b) ⊎ Cut change (mem_contents b) d ⊎ LeftSince (mem_moment a - t) (reverse a.history.changes.items) (mem_contents a) d
    split t d le left =
        subst (λ (n : ℕ). LeftSince n (change ∷ reverse a.history.changes.items) (mem_contents b) d → (d ≡ mem_contents b) ⊎ Cut change (mem_contents b) d ⊎ LeftSince (mem_moment a - t) (reverse a.history.changes.items) (mem_contents a) d)
        (sym (steps t le))
        (λ left. subst (λ (x : Devices). (d ≡ mem_contents b) ⊎ Cut change (mem_contents b) d ⊎ LeftSince (mem_moment a - t) (reverse a.history.changes.items) x d) back left)
        (subst (λ (l : List Change). LeftSince (mem_moment b - t) l (mem_contents b) d) rev left)

    all : (t : ℕ) (d : Devices) → t ≤ mem_moment a
        → (d ≡ mem_contents b) ⊎ Cut change (mem_contents b) d ⊎ LeftSince (mem_moment a - t) (reverse a.history.changes.items) (mem_contents a) d
        → LeftSince (mem_moment b - t) (reverse b.history.changes.items) (mem_contents b) d
    all t d le left =
        subst (λ (l : List Change). LeftSince (mem_moment b - t) l (mem_contents b) d) (sym rev)
        (subst (λ (n : ℕ). LeftSince n (change ∷ reverse a.history.changes.items) (mem_contents b) d) (sym (steps t le))
        (subst (λ (x : Devices). (d ≡ mem_contents b) ⊎ Cut change (mem_contents b) d ⊎ LeftSince (mem_moment a - t) (reverse a.history.changes.items) x d) (sym back) left))

    one : (d : Devices) → LeftSince (mem_moment b - mem_moment a) (reverse b.history.changes.items) (mem_contents b) d → (d ≡ mem_contents b) ⊎ Cut change (mem_contents b) d ⊎ (d ≡ mem_contents a)
    one d left =
        ⊎_elim (λ here. inl here) (λ rest. ⊎_elim (λ cut. inr (inl cut)) (λ was. inr (inr (none d was))) rest) (split (mem_moment a) d (omega arith) left)

    each : (d : Devices) → (d ≡ mem_contents b) ⊎ Cut change (mem_contents b) d ⊎ (d ≡ mem_contents a) → P d
    each d left = ⊎_elim
        (λ here. subst P (sym here) new)
        (λ rest. ⊎_elim (λ now. cut d now) (λ was. subst P (sym was) old) rest)
        left

    back_sizes : SameSizes b a
    back_sizes = record { disk = sym same.disk; words = sym same.words; buffers = sym same.buffers }

    before : (t : ℕ) (d : Devices) → t ≤ mem_moment a → mem_left_since b t d → mem_left_since a t d ⊎ mem_left_since b (mem_moment a) d
    before t d le left = ⊎_elim
        (λ here. inr (all (mem_moment a) d (omega arith) (inl here), left.1))
        (λ rest. ⊎_elim
        (λ now. inr (all (mem_moment a) d (omega arith) (inr (inl now)), left.1))
        (λ was. inl (was, reshape b a d (back_sizes) left.1)) rest)
        (split t d le left.0)

pub set-set : {X : Type 0} (xs : List X) (i : ℕ) (x y : X) → set (set xs i x) i y ≡ set xs i y
set-set [] i x y = refl
set-set (a ∷ xs) zero x y = refl
set-set (a ∷ xs) (suc i) x y = ap (λ l. a ∷ l) (set-set xs i x y)

-- a sector was put, or not
pub sector_changed : (a b : MemRig) (i : ℕ) (bytes : List ℕ) (takes : Bool)
    → b.history.changes.items ≡ a.history.changes.items ++ Sector i (get_or a.disk.items i []) bytes ∷ [] → b.history.start ≡ a.history.start
    → b.disk.items ≡ (if takes then set a.disk.items i bytes else a.disk.items) → b.words.items ≡ a.words.items → b.buffers.items ≡ a.buffers.items → b.kept ≡ a.kept
    → LeavesOnly mem_moment mem_left_since a b (SectorOldOrNew i bytes (mem_contents a))
sector_changed a b i bytes false more start disk words buffers kept =
    let same : mem_contents b ≡ mem_contents a = λ t. record { disk = disk t; words = words t; buffers = buffers t; kept = kept t } in
    pushed a b (Sector i (get_or a.disk.items i []) bytes) (SectorOldOrNew i bytes (mem_contents a)) more start
    record { disk = ap length disk; words = ap length words; buffers = ap length buffers }
    (ap (λ (d : Devices). with_sector d i (get_or a.disk.items i [])) same ∙ ap (λ l. record (mem_contents a) { disk = l }) (set-get_or a.disk.items i []))
    (inl refl) (inl same) (λ d cut. inr (cut ∙ ap (λ (d : Devices). with_sector d i bytes) same))
sector_changed a b i bytes true more start disk words buffers kept =
    let new : mem_contents b ≡ with_sector (mem_contents a) i bytes = λ t. record { disk = disk t; words = words t; buffers = buffers t; kept = kept t } in
    pushed a b (Sector i (get_or a.disk.items i []) bytes) (SectorOldOrNew i bytes (mem_contents a)) more start
    record { disk = ap length disk ∙ length-set a.disk.items i bytes; words = ap length words; buffers = ap length buffers }
    (ap (λ (d : Devices). with_sector d i (get_or a.disk.items i [])) new
    ∙ ap (λ l. record (mem_contents a) { disk = l }) (set-set a.disk.items i bytes (get_or a.disk.items i []) ∙ set-get_or a.disk.items i []))
    (inl refl) (inr new) (λ d cut. inr (cut ∙ ap (λ (d : Devices). with_sector d i bytes) new ∙ ap (λ l. record (mem_contents a) { disk = l }) (set-set a.disk.items i bytes bytes)))

-- a word was stored, or not
pub word_changed : (a b : MemRig) (i word : ℕ) (takes : Bool)
    → b.history.changes.items ≡ a.history.changes.items ++ Word i (get_or a.words.items i 0) word ∷ [] → b.history.start ≡ a.history.start
    → b.words.items ≡ (if takes then set a.words.items i word else a.words.items) → b.disk.items ≡ a.disk.items → b.buffers.items ≡ a.buffers.items → b.kept ≡ a.kept
    → LeavesOnly mem_moment mem_left_since a b (WordOldOrNew i word (mem_contents a))
word_changed a b i word false more start words disk buffers kept =
    let same : mem_contents b ≡ mem_contents a = λ t. record { disk = disk t; words = words t; buffers = buffers t; kept = kept t } in
    pushed a b (Word i (get_or a.words.items i 0) word) (WordOldOrNew i word (mem_contents a)) more start
    record { disk = ap length disk; words = ap length words; buffers = ap length buffers }
    (ap (λ (d : Devices). with_word d i (get_or a.words.items i 0)) same ∙ ap (λ l. record (mem_contents a) { words = l }) (set-get_or a.words.items i 0))
    (inl refl) (inl same) (λ d cut. inr (cut ∙ ap (λ (d : Devices). with_word d i word) same))
word_changed a b i word true more start words disk buffers kept =
    let new : mem_contents b ≡ with_word (mem_contents a) i word = λ t. record { disk = disk t; words = words t; buffers = buffers t; kept = kept t } in
    pushed a b (Word i (get_or a.words.items i 0) word) (WordOldOrNew i word (mem_contents a)) more start
    record { disk = ap length disk; words = ap length words ∙ length-set a.words.items i word; buffers = ap length buffers }
    (ap (λ (d : Devices). with_word d i (get_or a.words.items i 0)) new
    ∙ ap (λ l. record (mem_contents a) { words = l }) (set-set a.words.items i word (get_or a.words.items i 0) ∙ set-get_or a.words.items i 0))
    (inl refl) (inr new) (λ d cut. inr (cut ∙ ap (λ (d : Devices). with_word d i word) new ∙ ap (λ l. record (mem_contents a) { words = l }) (set-set a.words.items i word word)))

-- a buffer was filled, or not
pub buffer_changed : (a b : MemRig) (i : ℕ) (bytes : List ℕ) (takes : Bool)
    → b.history.changes.items ≡ a.history.changes.items ++ Buffer i (get_or a.buffers.items i []) ∷ [] → b.history.start ≡ a.history.start
    → b.buffers.items ≡ (if takes then set a.buffers.items i bytes else a.buffers.items) → b.disk.items ≡ a.disk.items → b.words.items ≡ a.words.items → b.kept ≡ a.kept
    → LeavesOnly mem_moment mem_left_since a b (BufferAny i (mem_contents a))
buffer_changed a b i bytes false more start buffers disk words kept =
    let old = get_or a.buffers.items i [] in
    let same : mem_contents b ≡ mem_contents a = λ t. record { disk = disk t; words = words t; buffers = buffers t; kept = kept t } in
    let stays : with_buffer (mem_contents a) i old ≡ mem_contents a = ap (λ l. record (mem_contents a) { buffers = l }) (set-get_or a.buffers.items i []) in
    pushed a b (Buffer i old) (BufferAny i (mem_contents a)) more start
    record { disk = ap length disk; words = ap length words; buffers = ap length buffers }
    (ap (λ (d : Devices). with_buffer d i old) same ∙ stays)
    (old, sym stays) (old, same ∙ sym stays) (λ d cut. (cut.0, cut.1 ∙ ap (λ (d : Devices). with_buffer d i cut.0) same))
buffer_changed a b i bytes true more start buffers disk words kept =
    let old = get_or a.buffers.items i [] in
    let new : mem_contents b ≡ with_buffer (mem_contents a) i bytes = λ t. record { disk = disk t; words = words t; buffers = buffers t; kept = kept t } in
    let stays : with_buffer (mem_contents a) i old ≡ mem_contents a = ap (λ l. record (mem_contents a) { buffers = l }) (set-get_or a.buffers.items i []) in
    pushed a b (Buffer i old) (BufferAny i (mem_contents a)) more start
    record { disk = ap length disk; words = ap length words; buffers = ap length buffers ∙ length-set a.buffers.items i bytes }
    (ap (λ (d : Devices). with_buffer d i old) new
    ∙ ap (λ l. record (mem_contents a) { buffers = l }) (set-set a.buffers.items i bytes old ∙ set-get_or a.buffers.items i []))
    (old, sym stays) (bytes, new)
    (λ d cut. (cut.0, cut.1 ∙ ap (λ (d : Devices). with_buffer d i cut.0) new ∙ ap (λ l. record (mem_contents a) { buffers = l }) (set-set a.buffers.items i bytes cut.0)))

-- the board was marked, or not
pub kept_changed : (a b : MemRig) (takes : Bool)
    → b.history.changes.items ≡ a.history.changes.items ++ Kept a.kept ∷ [] → b.history.start ≡ a.history.start
    → b.kept ≡ (if takes then true else a.kept) → b.disk.items ≡ a.disk.items → b.words.items ≡ a.words.items → b.buffers.items ≡ a.buffers.items
    → LeavesOnly mem_moment mem_left_since a b (KeptOldOrTrue (mem_contents a))
kept_changed a b false more start kept disk words buffers =
    let same : mem_contents b ≡ mem_contents a = λ t. record { disk = disk t; words = words t; buffers = buffers t; kept = kept t } in
    pushed a b (Kept a.kept) (KeptOldOrTrue (mem_contents a)) more start
    record { disk = ap length disk; words = ap length words; buffers = ap length buffers }
    (ap (λ (d : Devices). record d { kept = a.kept }) same)
    (inl refl) (inl same) (λ d cut. inr (cut ∙ ap with_kept same))
kept_changed a b true more start kept disk words buffers =
    let new : mem_contents b ≡ with_kept (mem_contents a) = λ t. record { disk = disk t; words = words t; buffers = buffers t; kept = kept t } in
    pushed a b (Kept a.kept) (KeptOldOrTrue (mem_contents a)) more start
    record { disk = ap length disk; words = ap length words; buffers = ap length buffers }
    (ap (λ (d : Devices). record d { kept = a.kept }) new)
    (inl refl) (inr new) (λ d cut. inr (cut ∙ ap with_kept new))

-- what is the same in both
pub record SameRecord (a b : MemRig) : Type 0 where
  pub contents : mem_contents b ≡ mem_contents a
  pub done : b.history.changes.items ≡ a.history.changes.items
  pub start : b.history.start ≡ a.history.start

transfer : (a b : MemRig) → SameRecord a b → (t : ℕ) (d : Devices) → mem_left_since b t d → mem_left_since a t d
transfer a b same t d left = (
  subst (λ (x : Devices). LeftSince (mem_moment a - t) (reverse a.history.changes.items) x d) same.contents
      (subst (λ (l : List Change). LeftSince (a.history.start + length l - t) (reverse l) (mem_contents b) d) same.done
      (subst (λ (n : ℕ). LeftSince (n + length b.history.changes.items - t) (reverse b.history.changes.items) (mem_contents b) d) same.start left.0)),
  reshape b a d record {
    disk = ap (λ (x : Devices). length x.disk) (sym same.contents);
    words = ap (λ (x : Devices). length x.words) (sym same.contents);
    buffers = ap (λ (x : Devices). length x.buffers) (sym same.contents);
  } left.1,
)

-- no change
pub unchanged : (a b : MemRig) (P : Devices → Type 0) → mem_contents b ≡ mem_contents a → b.history.changes.items ≡ a.history.changes.items → b.history.start ≡ a.history.start → P (mem_contents a) → LeavesOnly mem_moment mem_left_since a b P
unchanged a b P contents done start here =
    let same : SameRecord a b = record { contents = contents; done = done; start = start } in
    let back : SameRecord b a = record { contents = sym contents; done = sym done; start = sym start } in
    let moments : mem_moment b ≡ mem_moment a = omega (arith, start, ap length done) in
    record {
      later = omega (arith, moments);
      each = λ d left. subst P (sym (mem_only_now a d (transfer a b same (mem_moment a) d left))) here;
      before = λ t d le left. inl (transfer a b same t d left);
      keeps = λ t d le left. transfer b a back t d left;
      wider = λ t d le left. mem_wider b t (mem_moment a) d le left;
    }

-- no buffer was stored, which is one of what storing one may leave
pub buffer_unchanged : (a b : MemRig) (i : ℕ) → b.buffers.items ≡ a.buffers.items → b.disk.items ≡ a.disk.items → b.words.items ≡ a.words.items → b.kept ≡ a.kept
    → b.history.changes.items ≡ a.history.changes.items → b.history.start ≡ a.history.start → LeavesOnly mem_moment mem_left_since a b (BufferAny i (mem_contents a))
buffer_unchanged a b i buffers disk words kept changes start =
    let same : mem_contents b ≡ mem_contents a = λ t. record { disk = disk t; words = words t; buffers = buffers t; kept = kept t } in
    let stays : BufferAny i (mem_contents a) (mem_contents a) = (get_or a.buffers.items i [], ap (λ (l : List (List ℕ)). record (mem_contents a) { buffers = l }) (sym (set-get_or a.buffers.items i []))) in
    unchanged a b (BufferAny i (mem_contents a)) same changes start stays
