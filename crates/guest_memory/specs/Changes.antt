-- What the calls of a memory make of it.
use Rattle.std.specs.Prelude.{ℕ, zero, suc, ◌≡◌, ◌+◌, ◌-◌, ◌*◌, ◌/◌, ◌%◌, ◌<◌, ◌≤◌, ◌==◌, ◌&&◌, ◌||◌, not, nat_lt, nat_le, Bool, true, false, List, [], ◌∷◌, length, Result, Ok, Err, slice_set}
use Rattle.uh_base.specs.Bytes.{next}
use Rattle.uh_base.specs.Limits.{frame_limit}
use Rattle.guest_memory.specs.Lists.{filled, written_over, count_true}
use Rattle.guest_memory.specs.Pages.{Pages, holds, page_of, is_touched, all_rights, bytes_of, rights_at, touched_at}
use Rattle.guest_memory.specs.declared.rights.Rights.{Rights}
use Rattle.guest_memory.specs.declared.rights.PutEnd.{PutEnd}
use Rattle.guest_memory.specs.declared.rights.PutEnd.TheVariants.{Outside, Frames, Memory}

-- as many pages are touched as may be, and this one isn't
abbrev pub lacks : Pages → ℕ → Bool
lacks m page = not (is_touched m page) && count_true m.touched == frame_limit

abbrev pub touch : Pages → ℕ → Pages
touch m page = record m { touched = slice_set m.touched page true }

-- the memory with a byte put
abbrev pub put_to : Pages → ℕ → ℕ → Pages
put_to m at byte = record m { bytes = slice_set m.bytes (at - m.base) byte; touched = slice_set m.touched (page_of m at) true }

-- A touch of a page in memory that ends so leads from old to new.
abbrev pub TouchGives : {X : Type 0} → Result X PutEnd → Pages → Pages → ℕ → Type 0
TouchGives (Ok done) old new page = (lacks old page ≡ false) × (new ≡ touch old page)
TouchGives (Err Outside) old new page = ⊥
TouchGives (Err Frames) old new page = (lacks old page ≡ true) × (new ≡ old)
TouchGives (Err Memory) old new page = (lacks old page ≡ false) × (is_touched old page ≡ false) × (new ≡ old)

-- A put of a byte that ends so leads from old to new.
abbrev pub PutGives : {X : Type 0} → Result X PutEnd → Pages → Pages → ℕ → ℕ → Type 0
PutGives (Ok done) old new at byte = (holds old at ≡ true) × (lacks old (page_of old at) ≡ false) × (new ≡ put_to old at byte)
PutGives (Err Outside) old new at byte = (holds old at ≡ false) × (new ≡ old)
PutGives (Err Frames) old new at byte = (holds old at ≡ true) × (lacks old (page_of old at) ≡ true) × (new ≡ old)
PutGives (Err Memory) old new at byte =
    (holds old at ≡ true) × (lacks old (page_of old at) ≡ false) × (is_touched old (page_of old at) ≡ false) × (new ≡ old)

-- the memory with a number of so many bytes put, its least byte first
unfoldable pub put_number : Pages → ℕ → ℕ → ℕ → Pages
put_number m at zero value = m
put_number m at (suc n) value = put_number (put_to m at (value % 256)) (next at) n (value / 256)

-- A put of a number in one page of memory that ends so leads from old to new.
abbrev pub NumberGives : {X : Type 0} → Result X PutEnd → Pages → Pages → ℕ → ℕ → ℕ → Type 0
NumberGives (Ok done) old new at width value = (lacks old (page_of old at) ≡ false) × (new ≡ put_number old at width value)
NumberGives (Err Outside) old new at width value = ⊥
NumberGives (Err Frames) old new at width value = (lacks old (page_of old at) ≡ true) × (new ≡ old)
NumberGives (Err Memory) old new at width value = (lacks old (page_of old at) ≡ false) × (is_touched old (page_of old at) ≡ false) × (new ≡ old)

-- the memory with bytes put in one page
abbrev pub put_part : Pages → ℕ → List ℕ → Pages
put_part m at bytes = record m { bytes = written_over m.bytes (at - m.base) bytes; touched = slice_set m.touched (page_of m at) true }

-- the memory with bytes put, one after another
unfoldable pub put_bytes : Pages → ℕ → List ℕ → Pages
put_bytes m at [] = m
put_bytes m at (byte ∷ bytes) = put_bytes (put_to m at byte) (next at) bytes

-- A put of bytes in one page of memory that ends so leads from old to new.
abbrev pub PartGives : {X : Type 0} → Result X PutEnd → Pages → Pages → ℕ → List ℕ → Type 0
PartGives (Ok done) old new at bytes = (lacks old (page_of old at) ≡ false) × (new ≡ put_part old at bytes)
PartGives (Err Outside) old new at bytes = ⊥
PartGives (Err Frames) old new at bytes = (lacks old (page_of old at) ≡ true) × (new ≡ old)
PartGives (Err Memory) old new at bytes = (lacks old (page_of old at) ≡ false) × (is_touched old (page_of old at) ≡ false) × (new ≡ old)

-- whether each of so many pages, from a page on, is in memory
abbrev pub has_pages : Pages → ℕ → ℕ → Bool
has_pages m page count = count == 0 || nat_le (page + count) m.pages

-- the memory with so many pages touched, from a page on
abbrev pub reserved : Pages → ℕ → ℕ → Pages
reserved m page count = record m { touched = filled m.touched page count true }

-- one of so many pages isn't touched
pub record SomeUntouched (m : Pages) (page count : ℕ) : Type 0 where
  pub at : ℕ
  pub low : page ≤ at
  pub high : at < page + count
  pub untouched : is_touched m at ≡ false

-- at most the marks changed, and no touched page lost its mark
pub record TouchedBesides (old new : Pages) : Type 0 where
  pub rest : new ≡ record old { touched = new.touched }
  pub kept : (page : ℕ) → is_touched old page ≡ true → is_touched new page ≡ true

-- A reserve that ends so leads from old to new.
abbrev pub ReserveGives : {X : Type 0} → Result X PutEnd → Pages → Pages → ℕ → ℕ → Type 0
ReserveGives (Ok done) old new page count =
    (has_pages old page count ≡ true) × (count_true (reserved old page count).touched ≤ frame_limit) × (new ≡ reserved old page count)
ReserveGives (Err Outside) old new page count = (has_pages old page count ≡ false) × (new ≡ old)
ReserveGives (Err Frames) old new page count =
    (has_pages old page count ≡ true) × (frame_limit < count_true (reserved old page count).touched) × (new ≡ old)
ReserveGives (Err Memory) old new page count =
    (has_pages old page count ≡ true) × (count_true (reserved old page count).touched ≤ frame_limit) × SomeUntouched old page count × TouchedBesides old new

-- the memory with bytes written over whole pages from a page on, which are touched
abbrev pub written_pages : Pages → ℕ → List ℕ → Pages
written_pages m page bytes = record (reserved m page (length bytes / 4096)) { bytes = written_over m.bytes (4096 * page) bytes }

-- A write of whole pages that ends so leads from old to new.
abbrev pub PagesGive : {X : Type 0} → Result X PutEnd → Pages → Pages → ℕ → List ℕ → Type 0
PagesGive (Ok done) old new page bytes = (count_true (reserved old page (length bytes / 4096)).touched ≤ frame_limit) × (new ≡ written_pages old page bytes)
PagesGive (Err Outside) old new page bytes = ⊥
PagesGive (Err Frames) old new page bytes = (frame_limit < count_true (reserved old page (length bytes / 4096)).touched) × (new ≡ old)
PagesGive (Err Memory) old new page bytes =
    (count_true (reserved old page (length bytes / 4096)).touched ≤ frame_limit) × SomeUntouched old page (length bytes / 4096) × TouchedBesides old new

-- the memory with zeros, all rights and no mark at so many pages, from a page on
abbrev pub cleared : Pages → ℕ → ℕ → Pages
cleared m page count = record m {
  bytes = filled m.bytes (4096 * page) (4096 * count) 0;
  rights = filled m.rights page count all_rights;
  touched = filled m.touched page count false;
}

-- the memory with these rights at so many pages, from a page on
abbrev pub with_rights : Pages → ℕ → ℕ → Rights → Pages
with_rights m page count rights = record m { rights = filled m.rights page count rights }

-- whether an address is in one of so many pages, from a page on
abbrev pub in_run : Pages → ℕ → ℕ → ℕ → Bool
in_run m page count at = nat_le (m.base + 4096 * page) at && nat_lt at (m.base + 4096 * (page + count))

-- whether an address is one of so many, from an address on
abbrev pub in_range : ℕ → ℕ → ℕ → Bool
in_range from len at = nat_le from at && nat_lt at (from + len)

-- the memory with zeros at so many addresses, from one on
abbrev pub zeroed : Pages → ℕ → ℕ → Pages
zeroed m at len = record m { bytes = filled m.bytes (at - m.base) len 0 }

-- what stays where a call lacks memory: all but the marks, of which at most more are set
pub record OnlyMarks (old new : Pages) : Type 0 where
  pub base : new.base ≡ old.base
  pub pages : new.pages ≡ old.pages
  pub bytes : bytes_of new ≡ bytes_of old
  pub rights : rights_at new ≡ rights_at old
  pub touched : (at : ℕ) → touched_at old at ≡ true → touched_at new at ≡ true
