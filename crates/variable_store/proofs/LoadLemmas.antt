-- Variables that are read from a store file.
use Rattle.std.proofs.Common.{◌≡◌, ℕ, zero, suc, ◌+◌, ◌-◌, ◌*◌, ◌<◌, ◌≤◌, ◌^◌, List, [], ◌∷◌, ◌++◌, length, refl, sym, ap, ◌∙◌, arith, true, false}
use Rattle.std.specs.Prelude.{◌==◌, nat_lt, if◌then◌else◌, is_some, Result, Ok, Err}
use Rattle.std.proofs.lemmas.Bool.Decides.{nat_tests}
use Rattle.std.proofs.lemmas.List.Sums.{sum_by-cons, sum_by-append}
use Rattle.variable_store.specs.declared.fault.StoreFault.{StoreFault}
use Rattle.variable_store.specs.declared.fault.StoreFault.TheVariants.{At, Memory}
use Rattle.variable_store.specs.declared.reading.Header.{Header}
use Rattle.variable_store.specs.Entries.{Entry, cost, room_of, place_of}
use Rattle.variable_store.specs.Valid.{AreBelow, IsEntry, AreVariables}
use Rattle.variable_store.specs.Reading.{units_in, entry, entries, named, IsHeader}
use Rattle.uh_base.specs.Answers.{◌>>=◌, Stops}
use Rattle.variable_store.proofs.NameLemmas.{or_false, none_named, apart_more}
use Rattle.variable_store.proofs.SetLemmas.{room_is, each_more, is_none}

-- two bytes a unit
pub length_units : (n : ℕ) (bytes : List ℕ) → length bytes ≡ 2 * n → length (units_in bytes) ≡ n
unfolding units_in
length_units zero [] h = refl
length_units (suc n) [] h = absurd (omega arith)
length_units n (low ∷ []) h = absurd (omega arith)
length_units zero (low ∷ high ∷ bytes) h = absurd (omega arith)
length_units (suc n) (low ∷ high ∷ bytes) h = let rest = length_units n bytes (omega arith) in omega arith

pub loaded_valid : (before : List Entry) (head : Header) (bytes name content : List ℕ) → AreVariables before → IsHeader head (room_of before)
    → length bytes ≡ 2 * head.units → name ≡ units_in bytes → is_some (place_of before name head.vendor false) ≡ false → AreBelow (2 ^ 16) name → length content ≡ head.size → AreBelow (2 ^ 8) content
    → AreVariables (before ++ record { vendor = head.vendor; name = name; attributes = head.attributes; «data» = content } ∷ [])
loaded_valid before head bytes name content valid limits long is none units size fits =
    let new : Entry = record { vendor = head.vendor; name = name; attributes = head.attributes; «data» = content } in
    let count : length name ≡ head.units = ap length is ∙ length_units head.units bytes long in
    let short = or_false (head.units == 0) (nat_lt 1024 head.units) limits.name in
    let one = short.0 in
    let two = short.1 in
    let low : 0 < head.units = grind (arith, nat_tests) in
    let high : head.units ≤ 1024 = grind (arith, nat_tests) in
    let some = limits.some in
    let within = limits.within in
    let left = room_is before in
    let room = valid.room in
    let entry : IsEntry new = record { vendor = limits.vendor; some_name = omega arith; short_name = omega arith; units = units; attributes = limits.attributes; access = limits.access; some_bytes = omega arith; bytes = fits } in
    let sums = sum_by-append cost before (new ∷ []) in
    let last = sum_by-cons cost new [] in
    record { each = each_more before new valid.each entry; apart = apart_more before new valid.apart (none_named before name head.vendor (is_none _ none)); room = omega arith }

-- one more variable is read
pub one_read : (count turn size : ℕ) (rest behind : List ℕ) (before : List Entry) (e : Entry) (all : Result (List Entry) ℕ) → turn < count → entry size rest before ≡ Ok (e, behind) → entries (count - turn) size rest before ≡ all
    → entries (count - (turn + 1)) size behind (before ++ e ∷ []) ≡ all
unfolding entries
one_read count turn size rest behind before e all h read so_far =
    let more : count - turn ≡ suc (count - (turn + 1)) = omega arith in
    let here : entries (suc (count - (turn + 1))) size rest before ≡ all = rw more at so_far in
    let next : (entry size rest before >>= λ r. entries (count - (turn + 1)) size r.1 (before ++ r.0 ∷ [])) ≡ all = here in
    rw read at next

-- a variable is not read
pub not_read : (fault : StoreFault) (count turn size : ℕ) (rest : List ℕ) (before : List Entry) (all : Result (List Entry) ℕ) → turn < count → Stops (named fault) (entry size rest before) → entries (count - turn) size rest before ≡ all → Stops (named fault) all
unfolding entries
not_read Memory count turn size rest before all h fails so_far = tt
not_read (At at) count turn size rest before all h fails so_far =
    let more : count - turn ≡ suc (count - (turn + 1)) = omega arith in
    let here : entries (suc (count - (turn + 1))) size rest before ≡ all = rw more at so_far in
    let next : (entry size rest before >>= λ r. entries (count - (turn + 1)) size r.1 (before ++ r.0 ∷ [])) ≡ all = here in
    sym (rw fails at next)

-- the end of a file
none_more : (count turn size : ℕ) (rest : List ℕ) (before : List Entry) (all : Result (List Entry) ℕ) → count ≤ turn → entries (count - turn) size rest before ≡ all → (if length rest == 0 then Ok before else Err (size - length rest)) ≡ all
unfolding entries
none_more count turn size rest before all h so_far = let none : count - turn ≡ 0 = omega arith in rw none at so_far

pub all_read : (count turn size : ℕ) (rest : List ℕ) (before : List Entry) (all : Result (List Entry) ℕ) → count ≤ turn → (length rest == 0) ≡ true → entries (count - turn) size rest before ≡ all → all ≡ Ok before
all_read count turn size rest before all h e so_far = sym (rw e at (none_more count turn size rest before all h so_far))

pub more_left : (count turn size : ℕ) (rest : List ℕ) (before : List Entry) (all : Result (List Entry) ℕ) → count ≤ turn → (length rest == 0) ≡ false → entries (count - turn) size rest before ≡ all → all ≡ Err (size - length rest)
more_left count turn size rest before all h e so_far = sym (rw e at (none_more count turn size rest before all h so_far))
