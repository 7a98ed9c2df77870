-- Blocks and their outputs.
use Rattle.std.proofs.Common.{subst, ◌≡◌, ℕ, ◌+◌, ◌-◌, ◌*◌, ◌/◌, ◌%◌, ◌^◌, ◌<◌, ◌≤◌, Bool, true, false, List, [], ◌∷◌, zero, suc, length, refl, sym, ap, ◌∙◌, arith}
use Rattle.std.specs.Prelude.{Option, Some, None, IfSome, Result, Ok, Err, is_none, nat_lt, nat_le, ◌==◌, ◌&&◌, if◌then◌else◌}
use Rattle.std.proofs.lemmas.Bool.Decides.{nat_tests}
use Rattle.uh_base.specs.Bytes.{next, first_refused}
use Rattle.uh_base.specs.Limits.{frame_limit}
use Rattle.uh_base.specs.LittleEndian.{low_bytes}
use Rattle.guest_memory.specs.Lists.{count_true}
use Rattle.uh_base.specs.Statuses.{success}
use Rattle.guest_memory.specs.Pages.{Pages, Whole, page_of}
use Rattle.page_alloc.specs.Pages.{PageList}
use Rattle.pool_alloc.specs.Pool.{BlockPage}
use Rattle.pool_alloc.specs.Blocks.{rounded}
use Rattle.pool_alloc.specs.Calls.{Done as PoolDone, BlockInRam}
use Rattle.pool_alloc.specs.declared.refusal.PoolRefusal.{PoolRefusal}
use Rattle.service_answer.specs.Answers.{Answer, gives, lacks_frames}
use Rattle.address_view.specs.declared.view.Window.{Window}
use Rattle.pool_alloc.specs.declared.span.PageSpan.{PageSpan}
use Rattle.address_view.specs.declared.frames.ByteRange.{ByteRange}
use Rattle.address_view.specs.Windows.{see, window_at}
use Rattle.address_view.specs.Ranges.{marked_ranges, lacks_ranges}
use Rattle.address_view.specs.Seen.{all_pass, is_seen}
use Rattle.address_view.specs.Stored.{stored, marked, lacks_seen}
use Rattle.protocol_services.specs.declared.outputs.ListOutputs.{ListOutputs}
use Rattle.protocol_services.specs.Blocks.{BlockDone, block_given, IsRamView, as_ram, opened, with_contents, first_value, second_value, first_written, outputs_written, marks_behind}
use Rattle.protocol_services.proofs.MarkLemmas.{fewer, marked_less, marked_most, base_stored, touched_stored}

as_long : (n v : ℕ) → length (low_bytes n v) ≡ n
unfolding low_bytes
as_long zero v = refl
as_long (suc n) v = ap suc (as_long n (v / 256))

abbrev too_many : Pages → Bool
too_many m = nat_lt frame_limit (count_true m.touched)

-- ---- frames that suffice in all suffice for each store

stored_fits : (see : ℕ → Option ℕ) (m : Pages) (at : ℕ) (bytes : List ℕ) (n : ℕ) → length bytes ≡ n → too_many (stored see m at bytes) ≡ false → lacks_seen see m at n ≡ false
stored_fits see m at bytes n long e =
    ap (λ (k : ℕ). nat_lt frame_limit (count_true (marked see m.base m.touched at k))) (sym long) ∙ ap (λ (k : List Bool). nat_lt frame_limit (count_true k)) (sym (touched_stored see m at bytes)) ∙ e

before_fits : (see : ℕ → Option ℕ) (m : Pages) (at : ℕ) (bytes : List ℕ) → too_many (stored see m at bytes) ≡ false → too_many m ≡ false
before_fits see m at bytes e =
    let a = ap count_true (touched_stored see m at bytes) in
    let b = marked_less see m.base m.touched at (length bytes) in
    grind (arith, nat_tests)

pub second_fits : (see : ℕ → Option ℕ) (m : Pages) (span : Option PageSpan) (at count : ℕ) (bytes : List ℕ) (o : ListOutputs)
    → nat_lt frame_limit (count_true (outputs_written see (with_contents m span at bytes) o at count).touched) ≡ false → lacks_seen see (first_written see (with_contents m span at bytes) o at count) o.second 8 ≡ false
second_fits see m span at count bytes o e = stored_fits see (first_written see (with_contents m span at bytes) o at count) o.second (low_bytes 8 (second_value o at count)) 8 (as_long 8 (second_value o at count)) e

first_few : (see : ℕ → Option ℕ) (m : Pages) (span : Option PageSpan) (at count : ℕ) (bytes : List ℕ) (o : ListOutputs)
    → nat_lt frame_limit (count_true (outputs_written see (with_contents m span at bytes) o at count).touched) ≡ false → too_many (first_written see (with_contents m span at bytes) o at count) ≡ false
first_few see m span at count bytes o e = before_fits see (first_written see (with_contents m span at bytes) o at count) o.second (low_bytes 8 (second_value o at count)) e

pub first_fits : (see : ℕ → Option ℕ) (m : Pages) (span : Option PageSpan) (at count : ℕ) (bytes : List ℕ) (o : ListOutputs)
    → nat_lt frame_limit (count_true (outputs_written see (with_contents m span at bytes) o at count).touched) ≡ false → lacks_seen see (with_contents m span at bytes) o.first 8 ≡ false
first_fits see m span at count bytes o e = stored_fits see (with_contents m span at bytes) o.first (low_bytes 8 (first_value o at count)) 8 (as_long 8 (first_value o at count)) (first_few see m span at count bytes o e)

pub block_fits : (see : ℕ → Option ℕ) (m : Pages) (span : Option PageSpan) (at count : ℕ) (bytes : List ℕ) (o : ListOutputs)
    → nat_lt frame_limit (count_true (outputs_written see (with_contents m span at bytes) o at count).touched) ≡ false → lacks_seen (as_ram m) (opened m span) at (length bytes) ≡ false
block_fits see m span at count bytes o e =
    stored_fits (as_ram m) (opened m span) at bytes (length bytes) refl (before_fits see (with_contents m span at bytes) o.first (low_bytes 8 (first_value o at count)) (first_few see m span at count bytes o e))

-- ---- the marks that all of that leaves

base_opened : (m : Pages) (span : Option PageSpan) → (opened m span).base ≡ m.base
base_opened m None = refl
base_opened m (Some span) = refl

pub marks_are : (see : ℕ → Option ℕ) (m : Pages) (span : Option PageSpan) (at count : ℕ) (bytes : List ℕ) (o : ListOutputs) (size : ℕ) → length bytes ≡ size
    → (outputs_written see (with_contents m span at bytes) o at count).touched ≡ marks_behind (as_ram m) see m.base (opened m span).touched (record { at = at; len = size }) o
marks_are see m span at count bytes o size long =
    let m1 : Pages = opened m span in
    let m2 : Pages = with_contents m span at bytes in
    let m3 : Pages = first_written see m2 o at count in
    let b1 : m1.base ≡ m.base = base_opened m span in
    let b2 : m2.base ≡ m.base = base_stored (as_ram m) m1 at bytes ∙ b1 in
    let b3 : m3.base ≡ m.base = base_stored see m2 o.first (low_bytes 8 (first_value o at count)) ∙ b2 in
    let t2 : m2.touched ≡ marked (as_ram m) m.base m1.touched at size =
    touched_stored (as_ram m) m1 at bytes ∙ ap (λ (k : ℕ). marked (as_ram m) k m1.touched at (length bytes)) b1 ∙ ap (λ (k : ℕ). marked (as_ram m) m.base m1.touched at k) long in
    let t3 : m3.touched ≡ marked see m.base (marked (as_ram m) m.base m1.touched at size) o.first 8 =
    touched_stored see m2 o.first (low_bytes 8 (first_value o at count)) ∙ ap (λ (k : ℕ). marked see k m2.touched o.first (length (low_bytes 8 (first_value o at count)))) b2
    ∙ ap (λ (k : ℕ). marked see m.base m2.touched o.first k) (as_long 8 (first_value o at count)) ∙ ap (λ (k : List Bool). marked see m.base k o.first 8) t2 in
    touched_stored see m3 o.second (low_bytes 8 (second_value o at count)) ∙ ap (λ (k : ℕ). marked see k m3.touched o.second (length (low_bytes 8 (second_value o at count)))) b3
    ∙ ap (λ (k : ℕ). marked see m.base m3.touched o.second k) (as_long 8 (second_value o at count)) ∙ ap (λ (k : List Bool). marked see m.base k o.second 8) t3

-- ---- so few bytes that their pages have frames

opened_fewer : (m : Pages) (span : Option PageSpan) → count_true (opened m span).touched ≤ count_true m.touched
opened_fewer m None = omega arith
opened_fewer m (Some span) = fewer m.touched (page_of m span.start) span.count

pub no_lack : (ram see : ℕ → Option ℕ) (m : Pages) (span : Option PageSpan) (at size : ℕ) (o : ListOutputs) → count_true m.touched + size + 16 ≤ frame_limit
    → nat_lt frame_limit (count_true (marks_behind ram see m.base (opened m span).touched (record { at = at; len = size }) o)) ≡ false
no_lack ram see m span at size o few =
    let a = opened_fewer m span in
    let b = marked_most ram m.base (opened m span).touched at size in
    let c = marked_most see m.base (marked ram m.base (opened m span).touched at size) o.first 8 in
    let d = marked_most see m.base (marked see m.base (marked ram m.base (opened m span).touched at size) o.first 8) o.second 8 in
    let h : count_true (marks_behind ram see m.base (opened m span).touched (record { at = at; len = size }) o) ≤ frame_limit = omega (arith, a, b, c, d, few) in
    grind (arith, nat_tests)

-- ---- RAM as the firmware sees it

shown : (m : Pages) (at : ℕ) → m.base ≤ at → at < m.base + 4096 * m.pages → is_seen (as_ram m) m at ≡ true
unfolding window_at
shown m at low high =
    let t : (nat_le m.base at && nat_lt at (m.base + 4096 * m.pages)) ≡ true = grind (arith, nat_tests) in
    let p : m.base + (at - m.base) ≡ at = omega (arith, low) in
    rw t (rw p t)

all_next : (b : Bool) (at : ℕ) (rest : Option ℕ) → b ≡ true → is_none rest ≡ true → is_none (if b then rest else Some at) ≡ true
all_next true at rest e h = h
all_next false at rest e h = absurd (cc)

pub seen_in_ram : (m : Pages) (at len : ℕ) → m.base + 4096 * m.pages < 2 ^ 64 → m.base ≤ at → at + len ≤ m.base + 4096 * m.pages → all_pass (is_seen (as_ram m) m) at len ≡ true
unfolding first_refused
seen_in_ram m at zero end low high = refl
seen_in_ram m at (suc n) end low high =
    let to : at + 1 ≡ next at = omega (arith, end, high) in
    let later : all_pass (is_seen (as_ram m) m) (at + 1) n ≡ true = seen_in_ram m (at + 1) n end (omega (arith, low)) (omega (arith, high)) in
    all_next (is_seen (as_ram m) m at) at (first_refused (is_seen (as_ram m) m) (next at) n) (shown m at low (omega (arith, high))) (ap (λ (k : ℕ). all_pass (is_seen (as_ram m) m) k n) (sym to) ∙ later)

-- ---- an empty list

pub none_lacks : (see : ℕ → Option ℕ) (m : Pages) (o : ListOutputs) (count : ℕ)
    → lacks_ranges see m (record { at = o.first; len = 8 } ∷ record { at = o.second; len = 8 } ∷ []) ≡ nat_lt frame_limit (count_true (outputs_written see m o 0 count).touched)
unfolding marked_ranges
none_lacks see m o count =
    let m2 : Pages = first_written see m o 0 count in
    let b2 : m2.base ≡ m.base = base_stored see m o.first (low_bytes 8 (first_value o 0 count)) in
    let t2 : m2.touched ≡ marked see m.base m.touched o.first 8 = touched_stored see m o.first (low_bytes 8 (first_value o 0 count)) ∙ ap (λ (k : ℕ). marked see m.base m.touched o.first k) (as_long 8 (first_value o 0 count)) in
    let t3 : (outputs_written see m o 0 count).touched ≡ marked see m.base (marked see m.base m.touched o.first 8) o.second 8 =
    touched_stored see m2 o.second (low_bytes 8 (second_value o 0 count)) ∙ ap (λ (k : ℕ). marked see k m2.touched o.second (length (low_bytes 8 (second_value o 0 count)))) b2
    ∙ ap (λ (k : ℕ). marked see m.base m2.touched o.second k) (as_long 8 (second_value o 0 count)) ∙ ap (λ (k : List Bool). marked see m.base k o.second 8) t2 in
    sym (ap (λ (k : List Bool). nat_lt frame_limit (count_true k)) t3)

pub none_second_fits : (see : ℕ → Option ℕ) (m : Pages) (o : ListOutputs) (count : ℕ) → nat_lt frame_limit (count_true (outputs_written see m o 0 count).touched) ≡ false → lacks_seen see (first_written see m o 0 count) o.second 8 ≡ false
none_second_fits see m o count e = stored_fits see (first_written see m o 0 count) o.second (low_bytes 8 (second_value o 0 count)) 8 (as_long 8 (second_value o 0 count)) e

pub none_first_fits : (see : ℕ → Option ℕ) (m : Pages) (o : ListOutputs) (count : ℕ) → nat_lt frame_limit (count_true (outputs_written see m o 0 count).touched) ≡ false → lacks_seen see m o.first 8 ≡ false
none_first_fits see m o count e = stored_fits see m o.first (low_bytes 8 (first_value o 0 count)) 8 (as_long 8 (first_value o 0 count)) (before_fits see (first_written see m o 0 count) o.second (low_bytes 8 (second_value o 0 count)) e)

-- ---- a block that is given

at_least : (size : ℕ) → size ≤ rounded size
at_least size = by (size == 0) refl
  where
    by : (b : Bool) → (size == 0) ≡ b → size ≤ (if b then 8 else (size + 7) / 8 * 8)
    by true e = let f : size ≡ 0 = grind (arith, nat_tests) in omega (arith, f)
    by false e = omega arith

lies_seen : (m : Pages) (pages : PageList) (at size : ℕ) → Whole m → pages.base ≡ m.base → length pages.pages ≡ m.pages → BlockInRam at (rounded size) pages → all_pass (is_seen (as_ram m) m) at size ≡ true
lies_seen m pages at size whole base count lies =
    let end = whole.end in
    let low = lies.0 in
    let high = lies.1 in
    let least = at_least size in
    let below : m.base + 4096 * m.pages < 2 ^ 64 = omega (arith, end) in
    let from : m.base ≤ at = omega (arith, base, low) in
    let to : at + size ≤ m.base + 4096 * m.pages = omega (arith, base, count, high, least) in
    seen_in_ram m at size below from to

-- a block that would be given shows memory
pub block_seen : (ws : List Window) (m : Pages) (pages : PageList) (at size : ℕ) (o : Option ℕ) → IsRamView ws m → Whole m → pages.base ≡ m.base → length pages.pages ≡ m.pages → o ≡ Some at → IfSome o (λ place. BlockInRam place (rounded size) pages)
    → all_pass (is_seen (see ws) m) at size ≡ true
block_seen ws m pages at size None view whole base count e lies = absurd (cc)
block_seen ws m pages at size (Some place) view whole base count e lies =
    let same : place ≡ at = cc in
    ap (λ (k : List Window). all_pass (is_seen (see k) m) at size) view ∙ lies_seen m pages at size whole base count (subst (λ (k : ℕ). BlockInRam k (rounded size) pages) same lies)

-- where the marks are few enough, so are those of the memory behind the call
pub frames_suffice : (ws : List Window) (other : ℕ → Option ℕ) (m : Pages) (span : Option PageSpan) (at count : ℕ) (bytes : List ℕ) (o : ListOutputs) (lacks : Bool) → IsRamView ws m
    → lacks ≡ nat_lt frame_limit (count_true (marks_behind (see ws) other m.base (opened m span).touched (record { at = at; len = length bytes }) o)) → lacks ≡ false
    → nat_lt frame_limit (count_true (outputs_written other (with_contents m span at bytes) o at count).touched) ≡ false
frames_suffice ws other m span at count bytes o lacks view counted e =
    ap (λ (k : List Bool). nat_lt frame_limit (count_true k)) (marks_are other m span at count bytes o (length bytes) refl)
    ∙ ap (λ (k : List Window). nat_lt frame_limit (count_true (marks_behind (see k) other m.base (opened m span).touched (record { at = at; len = length bytes }) o))) (sym view)
    ∙ sym counted ∙ e

if_enough : (b : Bool) (x y : BlockDone) → b ≡ false → y ≡ (if b then x else y)
if_enough true x y e = absurd (cc)
if_enough false x y e = refl

-- so a block is given
pub given_is : (other : ℕ → Option ℕ) (m : Pages) (pages : PageList) (pool : List BlockPage) (o : ListOutputs) (bytes : List ℕ) (count : ℕ) (span there : Option PageSpan) (r : Result PoolDone PoolRefusal) (done : PoolDone)
    → r ≡ Ok done → span ≡ there → nat_lt frame_limit (count_true (outputs_written other (with_contents m span done.answer bytes) o done.answer count).touched) ≡ false
    → ◌≡◌ {A = BlockDone} (record { answer = gives success; memory = outputs_written other (with_contents m span done.answer bytes) o done.answer count; pages = done.pages; pool = done.pool }) (block_given other m pages pool o bytes count there r)
given_is other m pages pool o bytes count span there r done e s few =
    if_enough (nat_lt frame_limit (count_true (outputs_written other (with_contents m span done.answer bytes) o done.answer count).touched)) (record { answer = lacks_frames; memory = m; pages = pages; pool = pool })
    (record { answer = gives success; memory = outputs_written other (with_contents m span done.answer bytes) o done.answer count; pages = done.pages; pool = done.pool }) few
    ∙ ap (λ (k : Option PageSpan). block_given other m pages pool o bytes count k (Ok done)) s
    ∙ ap (λ (k : Result PoolDone PoolRefusal). block_given other m pages pool o bytes count there k) (sym e)

pub told_is : (answer wanted : Answer) (m new : Pages) (pages : PageList) (pool : List BlockPage) (done : BlockDone) → answer ≡ wanted → m ≡ new
    → ◌≡◌ {A = BlockDone} (record { answer = wanted; memory = new; pages = pages; pool = pool }) done → ◌≡◌ {A = BlockDone} (record { answer = answer; memory = m; pages = pages; pool = pool }) done
told_is answer wanted m new pages pool done a n e =
    ap (λ (k : Answer). record { answer = k; memory = m; pages = pages; pool = pool }) a ∙ ap (λ (k : Pages). record { answer = wanted; memory = k; pages = pages; pool = pool }) n ∙ e
