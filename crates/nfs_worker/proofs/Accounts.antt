-- The account of a volume, over one hold after another.
use Rattle.std.proofs.Common.{arith, ◌≡◌, ◌⊎◌, ℕ, ◌+◌, ◌≤◌, List, [], ◌∷◌, ◌++◌, refl, sym, ap, ◌∙◌, subst, inl, inr, ⊎_elim, append_assoc, append-nil}
use Rattle.files_model.specs.Files.{Files}
use Rattle.files_model.specs.History.{Event, after, after_event, IsLegal, failures}
use Rattle.files_model.specs.History.Event.{Done, Failed, Cut}
use Rattle.stable.specs.Counts.{RoseBy}
use Rattle.stable.specs.Moments.{IsClocked, LeavesOnly}
use Rattle.stable.proofs.Clocked.{started, goes_on, weaker, ends}
use Rattle.stable.specs.Looked.{KeepsImage}
use Rattle.stable.specs.Store.{Image, StaysOpenable, name_in}
use Rattle.stable.specs.declared.store.Stable.{Ghosts}
use Rattle.v7_map.specs.Frame.{frame}
use Rattle.v7_map.specs.Image.{sector_at}
use Rattle.v7_map.specs.View.{view}
use Rattle.v7_map.specs.Weak.{IsWeak}
use Rattle.v7_mend.specs.Keeps.{SameFiles}
use Rattle.volume.specs.Keeps.{MayOpen, SameName, SameVolume}
use Rattle.nfs_worker.specs.Account.{Hold, history, StandsFor, IsRecovered, Lasts, MarksWithin, HasGrown, Grew}

pub after-append : (files : Files) (xs ys : List Event) → after files (xs ++ ys) ≡ after (after files xs) ys
after-append files [] ys = refl
after-append files (x ∷ xs) ys = after-append (after_event files x) xs ys

pub legal-append : (files : Files) (xs ys : List Event) → IsLegal files xs → IsLegal (after files xs) ys → IsLegal files (xs ++ ys)
legal-append files [] ys p q = q
legal-append files (x ∷ xs) ys p q = (p.0, legal-append (after_event files x) xs ys p.1 q)

failures-append : (xs ys : List Event) → failures (xs ++ ys) ≡ failures xs + failures ys
failures-append [] ys = omega arith
failures-append (Done w i n r ∷ xs) ys = failures-append xs ys
failures-append (Failed w i n l ∷ xs) ys = let e : failures (xs ++ ys) ≡ failures xs + failures ys = failures-append xs ys in omega arith
failures-append (Cut c n l ∷ xs) ys = failures-append xs ys

pub history-append : (xs ys : List Hold) → history (xs ++ ys) ≡ history xs ++ history ys
history-append [] ys = refl
history-append (x ∷ xs) ys = ap (λ (es : List Event). x.events ++ es) (history-append xs ys) ∙ sym (append_assoc x.events (history xs) (history ys))

-- files that stand for some of the holds stand for some of these and more
stands_left : (files : Files) (xs ys : List Hold) (found : Files) → StandsFor files xs found → StandsFor files (xs ++ ys) found
stands_left files [] [] found p = p
stands_left files [] (y ∷ ys) found p = inl (inl p)
stands_left files (x ∷ xs) ys found (inl p) = inl p
stands_left files (x ∷ xs) ys found (inr p) = inr (stands_left (after files x.events) xs ys found p)

stands_right : (files : Files) (xs ys : List Hold) (found : Files) → StandsFor (after files (history xs)) ys found → StandsFor files (xs ++ ys) found
stands_right files [] ys found p = p
stands_right files (x ∷ xs) ys found p =
    inr (stands_right (after files x.events) xs ys found (subst (λ (f : Files). StandsFor f ys found) (after-append files x.events (history xs)) p))

pub recovered_left : (files : Files) (xs ys : List Hold) (image : Image) → IsRecovered files xs image → IsRecovered files (xs ++ ys) image
recovered_left files xs ys image p = record { weak = p.weak; stands = stands_left files xs ys (view image) p.stands }

recovered_right : (files then : Files) (xs ys : List Hold) (image : Image) → then ≡ after files (history xs) → IsRecovered then ys image → IsRecovered files (xs ++ ys) image
recovered_right files then xs ys image is p = record { weak = p.weak; stands = stands_right files xs ys (view image) (subst (λ (f : Files). StandsFor f ys (view image)) is p.stands) }

pub marks_later : (a b now : ℕ) (ys : List Hold) → a ≤ b → MarksWithin b now ys → MarksWithin a now ys
marks_later a b now [] le p = omega (arith, le, p)
marks_later a b now (y ∷ ys) le p = (omega (arith, le, p.0), p.1)

marks_both : (a b c : ℕ) (xs ys : List Hold) → MarksWithin a b xs → MarksWithin b c ys → MarksWithin a c (xs ++ ys)
marks_both a b c [] ys p q = marks_later a b c ys p q
marks_both a b c (x ∷ xs) ys p q = (p.0, marks_both x.mark b c xs ys p.1 q)

marks_end : (a b : ℕ) (xs : List Hold) → MarksWithin a b xs → a ≤ b
marks_end a b [] p = p
marks_end a b (x ∷ xs) p = let e = marks_end x.mark b xs p.1 in omega (arith, p.0, e)

-- what crashes since earlier marks leave, after more holds
lasts_both : (past since : ℕ → Image → Type 0) (mid from : ℕ) (files then : Files) (xs ys : List Hold) → then ≡ after files (history xs)
    → ((t : ℕ) (d : Image) → t ≤ mid → since t d → past t d ⊎ since mid d)
    → ((d : Image) → since mid d → IsRecovered then ys d)
    → MarksWithin from mid xs → Lasts past files xs → Lasts since then ys → Lasts since files (xs ++ ys)
lasts_both past since mid from files then [] ys is before each marks p q = subst (λ (f : Files). Lasts since f ys) is q
lasts_both past since mid from files then (x ∷ xs) ys is before each marks p q =
    let is' : then ≡ after (after files x.events) (history xs) = is ∙ after-append files x.events (history xs) in
    let early : x.mark ≤ mid = marks_end x.mark mid xs marks.1 in (
      (λ d left. ⊎_elim
          (λ was. recovered_left (after files x.events) xs ys d (p.0 d was))
          (λ now. recovered_right (after files x.events) then xs ys d is' (each d now))
          (before x.mark d early left)),
      lasts_both past since mid x.mark (after files x.events) then xs ys is' before each marks.1 p.1 q,
    )

rose_both : (m n a b c : ℕ) → RoseBy m a b → RoseBy n b c → RoseBy (m + n) a c
rose_both m n a b c p q = omega (arith, p, q)

-- an image that is the same
kept : (old image : Image) → image ≡ old → IsWeak (frame old) → SameFiles old image
kept old image is weak = subst (λ (x : Image). SameFiles old x) (sym is) (record { weak = weak; view = refl })

same-name : (old image : Image) → image ≡ old → SameName old image
same-name old image is = ap (λ (x : Image). name_in (sector_at x 1)) is

-- at a moment of an opening
opened-name : (old image : Image) → MayOpen old image → SameName old image
opened-name old image (inl is) = same-name old image is
opened-name old image (inr same) = same.name

mended : (old image : Image) → MayOpen old image → IsWeak (frame old) → SameFiles old image
mended old image (inl is) weak = kept old image is weak
mended old image (inr same) weak = same.files

module _ {S : Type 0} (s : Ghosts S) (clocked : IsClocked s.tells s.image s.moment s.left_since) where
  -- nothing happened
  pub grew_none : (old : S) → Grew s old old []
  grew_none old = record {
    grown = λ told weak. record { legal = tt; view_is = refl; weak = weak };
    io = omega arith;
    marked = omega arith;
    crash = started clocked old _ (λ told weak. record { weak = weak; stands = refl });
    lasts = λ told weak. tt;
    named = λ told. refl;
    opens = λ told t le opens. opens;
  }

  -- One hold that meets its own clause: its events are legal, and a crash in it leaves them torn.
  pub grew_hold : (old new : S) (events : List Event)
      → (s.tells → IsWeak (frame (s.image old)) → HasGrown (view (s.image old)) (s.image new) events)
      → RoseBy (failures events) (s.faults old) (s.faults new)
      → LeavesOnly s.moment s.left_since old new (λ d. IsWeak (frame (s.image old)) → IsRecovered (view (s.image old)) (record { events = events; mark = s.moment new } ∷ []) d)
      → (s.tells → SameName (s.image old) (s.image new))
      → (s.tells → StaysOpenable s.opens_since s.moment old new)
      → Grew s old new (record { events = events; mark = s.moment new } ∷ [])
  grew_hold old new events grown io crash named opens =
      let all : events ++ [] ≡ events = append-nil events in
      record {
        grown = λ told weak. subst (λ (es : List Event). HasGrown (view (s.image old)) (s.image new) es) (sym all) (grown told weak);
        io = subst (λ (es : List Event). RoseBy (failures es) (s.faults old) (s.faults new)) (sym all) io;
        marked = (crash.later, omega arith);
        crash = crash;
        lasts = λ told weak. (
          (λ d left.
              let same : d ≡ s.image new = clocked.only new d left in
              let g = grown told weak in
              subst (λ (x : Image). IsRecovered (after (view (s.image old)) events) [] x) (sym same) (record { weak = g.weak; stands = g.view_is })),
          tt,
        );
        named = named;
        opens = opens;
      }

  -- device calls without a hold, as those of a look, a repair, an opening and a stopping: the files stay
  pub grew_same : {old new : S} → (s.tells → IsWeak (frame (s.image old)) → SameFiles (s.image old) (s.image new)) → s.faults old ≤ s.faults new
      → LeavesOnly s.moment s.left_since old new (λ d. IsWeak (frame (s.image old)) → SameFiles (s.image old) d) → (s.tells → SameName (s.image old) (s.image new)) → (s.tells → StaysOpenable s.opens_since s.moment old new) → Grew s old new []
  grew_same {old} {new} same later crash named opens = record {
    grown = λ told weak. let files = same told weak in record { legal = tt; view_is = files.view; weak = files.weak };
    io = omega (arith, later);
    marked = crash.later;
    crash = weaker crash (λ d left is weak. let files = is weak in record { weak = files.weak; stands = files.view });
    lasts = λ told weak. tt;
    named = named;
    opens = opens;
  }

  -- no sector has changed
  pub grew_idle : {old new : S} → KeepsImage s old new → Grew s old new []
  grew_idle {old} {new} keeps = grew_same
      (λ told weak. kept (s.image old) (s.image new) (keeps.image told) weak)
      keeps.later
      (weaker keeps.crash (λ d left is weak. kept (s.image old) d is weak))
      (λ told. same-name (s.image old) (s.image new) (keeps.image told))
      (λ told. keeps.opens)

  -- an opening, done or refused: at each moment nothing has changed, or the files are the same
  pub grew_opened : {old new : S} → s.faults old ≤ s.faults new → LeavesOnly s.moment s.left_since old new (MayOpen (s.image old))
      → (s.tells → StaysOpenable s.opens_since s.moment old new) → Grew s old new []
  grew_opened {old} {new} later crash opens = grew_same
      (λ told weak. mended (s.image old) (s.image new) (ends clocked crash told) weak)
      later
      (weaker crash (λ d left is weak. mended (s.image old) d is weak))
      (λ told. opened-name (s.image old) (s.image new) (ends clocked crash told))
      opens

  -- a stopping: the files are the same
  pub grew_stopped : {old new : S} → s.faults old ≤ s.faults new → LeavesOnly s.moment s.left_since old new (SameVolume (s.image old)) → (s.tells → StaysOpenable s.opens_since s.moment old new) → Grew s old new []
  grew_stopped {old} {new} later crash opens = grew_same (λ told weak. (ends clocked crash told).files) later (weaker crash (λ d left is weak. is.files)) (λ told. (ends clocked crash told).name) opens

  -- one run of holds and then another
  pub grew_both : {a b c : S} (xs ys : List Hold) → Grew s a b xs → Grew s b c ys → Grew s a c (xs ++ ys)
  grew_both {a} {b} {c} xs ys p q = record {
    grown = λ told weak.
        let g = p.grown told weak in
        let h = q.grown told g.weak in
        record {
          legal = subst (IsLegal (view (s.image a))) (sym (history-append xs ys)) (legal-append (view (s.image a)) (history xs) (history ys) g.legal (subst (λ (f : Files). IsLegal f (history ys)) g.view_is h.legal));
          view_is = h.view_is ∙ ap (λ (f : Files). after f (history ys)) g.view_is ∙ sym (after-append (view (s.image a)) (history xs) (history ys)) ∙ ap (after (view (s.image a))) (sym (history-append xs ys));
          weak = h.weak;
        };
    io = subst (λ (n : ℕ). RoseBy n (s.faults a) (s.faults c)) (sym (failures-append (history xs) (history ys)) ∙ ap failures (sym (history-append xs ys))) (rose_both (failures (history xs)) (failures (history ys)) (s.faults a) (s.faults b) (s.faults c) p.io q.io);
    marked = marks_both (s.moment a) (s.moment b) (s.moment c) xs ys p.marked q.marked;
    crash = goes_on (weaker p.crash (λ d left is weak. recovered_left (view (s.image a)) xs ys d (is weak))) q.crash (λ d left is weak.
        let told = clocked.told c (s.moment b) d left in
        let g = p.grown told weak in
        recovered_right (view (s.image a)) (view (s.image b)) xs ys d g.view_is (is g.weak));
    lasts = λ told weak.
        let g = p.grown told weak in
        lasts_both (s.left_since b) (s.left_since c) (s.moment b) (s.moment a) (view (s.image a)) (view (s.image b)) xs ys g.view_is
        (λ t d early left. q.crash.before t d early left)
        (λ d left. q.crash.each d left g.weak)
        p.marked (p.lasts told weak) (q.lasts told g.weak);
    named = λ told. q.named told ∙ p.named told;
    opens = λ told t le opens. q.opens told t (omega (arith, le, p.crash.later)) (p.opens told t le opens);
  }

  -- device calls before a run of holds
  pub grew_before : {a b c : S} (holds : List Hold) → Grew s a b [] → Grew s b c holds → Grew s a c holds
  grew_before holds before grows = grew_both [] holds before grows

  -- and after it
  pub grew_after : {a b c : S} (holds : List Hold) → Grew s a b holds → Grew s b c [] → Grew s a c holds
  grew_after {a} {c = c} holds grows after = subst (λ (hs : List Hold). Grew s a c hs) (append-nil holds) (grew_both holds [] grows after)

-- What turns take of the account of a volume: nothing happened, no sector has changed, and one run of holds and then another.
pub record IsAccount {S : Type 0} (keeps : S → S → Type 0) (grew : S → S → List Hold → Type 0) : Type 0 where
  pub none : (store : S) → grew store store []
  pub idle : (old new : S) → keeps old new → grew old new []
  pub both : (a b c : S) (xs ys : List Hold) → grew a b xs → grew b c ys → grew a c (xs ++ ys)

pub is_account : {S : Type 0} (s : Ghosts S) → IsClocked s.tells s.image s.moment s.left_since → IsAccount (KeepsImage s) (Grew s)
is_account s clocked = record {
  none = grew_none s clocked;
  idle = λ old new keeps. grew_idle s clocked keeps;
  both = λ a b c xs ys p q. grew_both s clocked xs ys p q;
}
