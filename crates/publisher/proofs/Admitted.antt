-- What an answer that is a value says of the tests of a call, and what passes them. Assumes nothing.
use mathlib.Core.Path.{◌≡◌, sym}
use Prim.Native.Nat.{ℕ, ◌+◌, ◌-◌, ◌^◌, ◌≤◌, min}
use borrow.Author.Tests.{le-leb, leb-true}
use lib.Dec.{leb}
use Rattle.refusal.specs.Out.{ok}
use Rattle.refusal.proofs.OutLaws.{bind_ok, need-ok, ok-is}
use Rattle.header.specs.Header.{max_compression, max_type, write_header}
use Rattle.publisher.specs.Plan.{header_for}
use Rattle.publisher.specs.Calls.{Accepted}
use Rattle.publisher.specs.Publish.{total, totalling, advancing, publishing}
use Rattle.publisher.specs.declared.Settings.{Settings}
use Rattle.acceptance.specs.declared.Counts.{Counts}

-- an answer that is a position has passed every test
pub admitted : (s : Settings) (r m d l n p b q : ℕ) → publishing s r m d l n p b ≡ ok q
    → Accepted s r m d l n × (p ≤ total r m d l) × (q ≡ p + min b (total r m d l - p))
unfolding publishing totalling
admitted s r m d l n p b q e =
    let a = need-ok (leb s.tile_compression max_compression) 4 _ q e in
    let c = need-ok (leb s.tile_type max_type) 5 _ q a.1 in
    let g = bind_ok (totalling r m d l) (λ t. advancing (16384 + m + d + l) t n p b) q c.1 in
    let f = need-ok (leb (total r m d l) (2 ^ 64 - 1)) 11 _ g.0 g.1 in
    let k = need-ok (leb r 16257) 17 _ g.0 f.1 in
    let h = need-ok (leb (16384 + m + d + l) n) 15 _ q g.2 in
    let i = need-ok (leb p g.0) 17 _ q h.1 in
    let t : g.0 ≡ total r m d l = sym (ok-is k.1) in (
      record { compression = leb-true _ _ a.0; type = leb-true _ _ c.0; sum = leb-true _ _ f.0; root = leb-true _ _ k.0; room = leb-true _ _ h.0 },
      rw t at (leb-true _ _ i.0),
      sym (rw t at (ok-is i.1)),
    )

-- and what is accepted is not refused, at any position of the plan
pub publishes : (s : Settings) (r m d l n p b : ℕ) → Accepted s r m d l n → p ≤ total r m d l
    → publishing s r m d l n p b ≡ ok (p + min b (total r m d l - p))
unfolding publishing totalling
publishes s r m d l n p b a h =
    simp (le-leb _ _ a.compression, le-leb _ _ a.type, le-leb _ _ a.sum, le-leb _ _ a.root, le-leb _ _ a.room, le-leb _ _ h)

-- the header of what is accepted can be written
pub writable : (s : Settings) (c : Counts) (r m d l n : ℕ) → Accepted s r m d l n → write_header (header_for s c r m d l) 127 ≡ ok tt
unfolding write_header header_for
writable s c r m d l n a = simp (le-leb _ _ a.compression, le-leb _ _ a.type)
