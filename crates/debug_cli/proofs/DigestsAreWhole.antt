-- A digest is 32 bytes.
use Rattle.std.proofs.Common.{◌++◌, ◌<◌, ◌∷◌, ◌≡◌, [], ℕ, List, arith, slice_index, subst, suc, sym, zero}
use Rattle.std.specs.Int.{byte_at, bytes_high_first}
use Rattle.sha2.{proofs.Facts256.length-sha256, specs.Sha256.digest_bytes, specs.Sha256.sha256}
use Rattle.session_file.specs.Whole.{IsDigest}

byte_below : (i n : ℕ) → byte_at i n < 256
byte_below zero n = grind arith
byte_below (suc i) n = grind arith

word_below : (k n i : ℕ) → slice_index (bytes_high_first k n) i < 256
word_below zero n i = omega arith
word_below (suc k) n zero = byte_below k n
word_below (suc k) n (suc i) = word_below k n i

append_below : (xs ys : List ℕ) → ((i : ℕ) → slice_index xs i < 256) → ((i : ℕ) → slice_index ys i < 256) → (i : ℕ) → slice_index (xs ++ ys) i < 256
append_below [] ys a b i = b i
append_below (x ∷ xs) ys a b zero = a 0
append_below (x ∷ xs) ys a b (suc i) = append_below xs ys (λ j. a (suc j)) b i

digest_below : (h : List ℕ) (n i : ℕ) → slice_index (digest_bytes h n) i < 256
unfolding digest_bytes
digest_below h zero i = omega arith
digest_below h (suc n) i = append_below (digest_bytes h n) _ (digest_below h n) (word_below 4 (slice_index h n)) i

sha256_below : (m : List ℕ) (i : ℕ) → slice_index (sha256 m) i < 256
unfolding sha256
sha256_below m i = digest_below _ 8 i

sha256_whole : (m : List ℕ) → IsDigest (sha256 m)
sha256_whole m = record { size = length-sha256 m; each = sha256_below m }

pub digest_whole : (digest m : List ℕ) → digest ≡ sha256 m → IsDigest digest
digest_whole digest m is = subst (λ (d : List ℕ). IsDigest d) (sym is) (sha256_whole m)
