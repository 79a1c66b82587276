-- An address's bytes, its segments, and the bytes that it is known by.
use Rattle.std.proofs.Common.{◌≡◌, ℕ, zero, suc, ◌+◌, ◌-◌, ◌*◌, ◌/◌, ◌%◌, ◌<◌, List, [], ◌∷◌, ◌++◌, length, get_or, take, drop, refl, sym, ap, ◌∙◌, arith}
use Rattle.std.proofs.lemmas.List.{take-append-drop}
use Rattle.std.specs.declared.net.ip_addr.IpAddr.{IpAddr}
use Rattle.std.specs.declared.net.ip_addr.IpAddr.TheVariants.{V4, V6}
use Rattle.std.specs.declared.net.ipv6_addr.Ipv6Addr.{Ipv6Addr}
use Rattle.std.specs.Net.Addr.{segments_of, octets_of, ipv6_segments, ipv4_octets, IsCanonicalOf}
use Rattle.rig_file.specs.Addresses.{known_as}

-- the octets of the segments that octets make
octets_back : (n : ℕ) (xs : List ℕ) → length xs ≡ 2 * n → ((k : ℕ) → get_or xs k 0 < 256) → octets_of (segments_of xs) ≡ xs
octets_back n [] even small = refl
octets_back n (a ∷ []) even small = absurd (omega arith)
octets_back n (a ∷ b ∷ xs) even small =
    let low : b < 256 = small 1 in
    let high : (a * 256 + b) / 256 ≡ a = omega arith in
    let rest : (a * 256 + b) % 256 ≡ b = omega arith in
    λ i. high i ∷ rest i ∷ octets_back (n - 1) xs (omega arith) (λ k. small (suc (suc k))) i

-- the segments of the octets that some of those segments make
segments_back : (n k : ℕ) (xs : List ℕ) → length xs ≡ 2 * n → ((k : ℕ) → get_or xs k 0 < 256) → segments_of (octets_of (drop k (segments_of xs))) ≡ drop k (segments_of xs)
segments_back n zero xs even small = ap segments_of (octets_back n xs even small)
segments_back n (suc k) [] even small = refl
segments_back n (suc k) (a ∷ []) even small = refl
segments_back n (suc k) (a ∷ b ∷ xs) even small = segments_back (n - 1) k xs (omega arith) (λ j. small (suc (suc j)))

-- the canonical form of an address is known by that address's bytes
pub canonical : (a : Ipv6Addr) (c : IpAddr) (xs : List ℕ) → ipv6_segments a ≡ segments_of xs → length xs ≡ 16 → ((k : ℕ) → get_or xs k 0 < 256)
    → IsCanonicalOf a c → known_as c ≡ xs
canonical a (V4 ip) xs is sixteen small (mapped, same) =
    let front : take 6 (segments_of xs) ≡ 0 ∷ 0 ∷ 0 ∷ 0 ∷ 0 ∷ 0xffff ∷ [] = sym (ap (take 6) is) ∙ mapped in
    let behind : segments_of (ipv4_octets ip) ≡ drop 6 (segments_of xs) =
    ap segments_of (same ∙ ap (λ l. octets_of (drop 6 l)) is) ∙ segments_back 8 6 xs (omega (arith, sixteen)) small in
    let whole : 0 ∷ 0 ∷ 0 ∷ 0 ∷ 0 ∷ 0xffff ∷ segments_of (ipv4_octets ip) ≡ segments_of xs =
    (λ i. sym front i ++ behind i) ∙ take-append-drop 6 (segments_of xs) in
    ap octets_of whole ∙ octets_back 8 xs (omega (arith, sixteen)) small
canonical a (V6 ip) xs is sixteen small (_, same) =
    ap (λ b. octets_of (ipv6_segments b)) same ∙ ap octets_of is ∙ octets_back 8 xs (omega (arith, sixteen)) small
