-- A part of a page is put byte by byte.
use Rattle.std.proofs.Common.{◌≡◌, ℕ, ◌+◌, ◌*◌, ◌-◌, ◌/◌, ◌%◌, ◌^◌, ◌<◌, ◌≤◌, true, List, length, refl, sym, ◌∙◌, ap, arith, [], ◌∷◌, suc, slice_set}
use Rattle.std.proofs.Math.ListN.{length-set}
use Rattle.std.proofs.lemmas.List.{take-append-drop}
use Rattle.uh_base.specs.Bytes.{next}
use Rattle.guest_memory.specs.Lists.{written_over}
use Rattle.guest_memory.specs.Laws.{PartsArePut}
use Rattle.guest_memory.specs.Pages.{Pages, Whole, InPage, page_of}
use Rattle.guest_memory.specs.Changes.{put_to, put_part, put_bytes}
use Rattle.guest_memory.proofs.MarkLemmas.{set_twice}
use Rattle.guest_memory.proofs.PartLemmas.{over_step}

-- room in one page for so many bytes more
record Room (m : Pages) (at n : ℕ) : Type 0 where
  even : m.base % 4096 ≡ 0
  low : m.base ≤ at
  high : at + n ≤ m.base + length m.bytes
  one : at % 4096 + n ≤ 4096
  small : at + n < 2 ^ 64

one_byte : (m : Pages) (at byte : ℕ) → Room m at 1 → put_part m at (byte ∷ []) ≡ put_to m at byte
one_byte m at byte r =
    let low = r.low in let high = r.high in
    ap (λ xs. record m { bytes = xs; touched = slice_set m.touched (page_of m at) true })
    (over_step m.bytes [] (at - m.base) byte (omega arith) ∙ take-append-drop (at - m.base + 1) (slice_set m.bytes (at - m.base) byte))

first_byte : (m : Pages) (at byte : ℕ) (bytes : List ℕ) → Room m at (suc (length bytes)) → 1 ≤ length bytes → put_part m at (byte ∷ bytes) ≡ put_part (put_to m at byte) (at + 1) bytes
first_byte m at byte bytes r some =
    let low = r.low in let high = r.high in let one = r.one in let even = r.even in
    let index : at - m.base + 1 ≡ at + 1 - m.base = omega arith in
    let page : page_of m at ≡ page_of m (at + 1) = omega arith in
    ap (λ xs. record m { bytes = xs; touched = slice_set m.touched (page_of m at) true })
    (over_step m.bytes bytes (at - m.base) byte (omega arith) ∙ ap (λ k. written_over (slice_set m.bytes (at - m.base) byte) k bytes) index)
    ∙ ap (λ marks. record m { bytes = written_over (slice_set m.bytes (at - m.base) byte) (at + 1 - m.base) bytes; touched = marks })
    (sym (set_twice m.touched (page_of m at)) ∙ ap (λ k. slice_set (slice_set m.touched (page_of m at) true) k true) page)

room_next : (m : Pages) (at byte n : ℕ) → Room m at (suc n) → Room (put_to m at byte) (at + 1) n
room_next m at byte n r =
    let low = r.low in let high = r.high in let one = r.one in let small = r.small in let e = length-set m.bytes (at - m.base) byte in
    record { even = r.even; low = omega arith; high = omega arith; one = omega arith; small = omega arith }

part_put : (m : Pages) (at byte : ℕ) (bytes : List ℕ) → Room m at (suc (length bytes)) → put_part m at (byte ∷ bytes) ≡ put_bytes m at (byte ∷ bytes)
unfolding put_bytes
part_put m at byte [] r = one_byte m at byte r
part_put m at byte (b ∷ bytes) r =
    let small = r.small in
    let n : at + 1 ≡ next at = omega arith in
    first_byte m at byte (b ∷ bytes) r (omega arith)
    ∙ part_put (put_to m at byte) (at + 1) b bytes (room_next m at byte (suc (length bytes)) r)
    ∙ ap (λ k. put_bytes (put_to m at byte) k (b ∷ bytes)) n

room : (m : Pages) (at n : ℕ) → Whole m → InPage m at n → Room m at n
room m at n whole inside =
    let end = whole.end in let high = inside.high in let long = whole.bytes_long in
    record { even = whole.base_even; low = inside.low; high = omega arith; one = inside.one; small = omega arith }

pub parts_are_put : PartsArePut
parts_are_put m at [] whole inside some = absurd (omega arith)
parts_are_put m at (byte ∷ bytes) whole inside some = part_put m at byte bytes (room m at (suc (length bytes)) whole inside)
