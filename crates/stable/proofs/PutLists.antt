-- What a list of puts has put so far.
use Rattle.std.proofs.Common.{◌≡◌, inl, inr, ℕ, zero, suc, ◌+◌, ◌<◌, List, [], ◌∷◌, length, get_or, take, set, refl, sym, ◌∙◌, ap, arith, add-one}
use Rattle.std.specs.List.{AllByRecursion}
use Rattle.stable.specs.Puts.{put_all, AfterSome}
use Rattle.stable.specs.Store.{Image, SectorPut}

-- the k-th put
abbrev pub put_at : List (ℕ × List ℕ) → ℕ → ℕ × List ℕ
put_at puts k = get_or puts k (0, [])

put_all-suc : (puts : List (ℕ × List ℕ)) (k : ℕ) (image : Image) → k < length puts →
    put_all (take (suc k) puts) image ≡ set (put_all (take k puts) image) (put_at puts k).0 (put_at puts k).1
put_all-suc [] k image lt = absurd (omega arith)
put_all-suc (put ∷ puts) zero image lt = refl
put_all-suc (put ∷ puts) (suc k) image lt = put_all-suc puts k (set image put.0 put.1) (omega arith)

-- one put more
pub put_more : (puts : List (ℕ × List ℕ)) (k : ℕ) (image : Image) → k < length puts →
    put_all (take (k + 1) puts) image ≡ set (put_all (take k puts) image) (put_at puts k).0 (put_at puts k).1
put_more puts k image lt = rw add-one (put_all-suc puts k image lt)

pub some_more : (puts : List (ℕ × List ℕ)) (k : ℕ) (old mid image : Image) → k < length puts → mid ≡ put_all (take k puts) old
    → SectorPut (put_at puts k).0 (put_at puts k).1 mid image → AfterSome puts old image
some_more puts k old mid image lt is (inl same) = (k, omega arith, same ∙ is)
some_more puts k old mid image lt is (inr new) =
    (k + 1, omega arith, new ∙ ap (λ (m : Image). set m (put_at puts k).0 (put_at puts k).1) is ∙ sym (put_more puts k old lt))

pub done_more : (puts : List (ℕ × List ℕ)) (k : ℕ) (old mid new : Image) → k < length puts → mid ≡ put_all (take k puts) old
    → new ≡ set mid (put_at puts k).0 (put_at puts k).1 → new ≡ put_all (take (k + 1) puts) old
done_more puts k old mid new lt is done =
    done ∙ ap (λ (m : Image). set m (put_at puts k).0 (put_at puts k).1) is ∙ sym (put_more puts k old lt)

-- what holds of each put holds of the k-th
pub each_put : (P : ℕ × List ℕ → Type 0) (puts : List (ℕ × List ℕ)) (k : ℕ) → AllByRecursion P puts → k < length puts → P (put_at puts k)
each_put P [] k all lt = absurd (omega arith)
each_put P (put ∷ puts) zero all lt = all.0
each_put P (put ∷ puts) (suc k) all lt = each_put P puts k all.1 (omega arith)
