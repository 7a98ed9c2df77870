-- Memory as it is seen, where `see` is the place that each address shows.
use Rattle.std.specs.Prelude.{ℕ, ◌≡◌, ◌+◌, ◌^◌, ◌<◌, ◌≤◌, Bool, true, false, Option, Some, None, is_none}
use Rattle.uh_base.specs.Bytes.{first_refused}
use Rattle.rv_step.specs.declared.bus.Access.{Access}
use Rattle.rv_step.specs.declared.bus.Access.TheVariants.{Load, Store, Fetch}
use Rattle.guest_memory.specs.Pages.{Pages, holds, rights_at, page_of, InPage}
use Rattle.guest_memory.specs.declared.rights.Rights.{Rights}
use Rattle.address_view.specs.Windows.{at_place}
use Rattle.address_view.specs.declared.code.CodePage.{CodePage}
use Rattle.address_view.specs.declared.run.PageRun.{PageRun}

-- whether rights allow an access
abbrev pub may : Access → Option Rights → Bool
may kind None = false
may Load (Some r) = r.read
may Store (Some r) = r.write
may Fetch (Some r) = r.exec

-- whether what is seen at an address allows an access
unfoldable pub view_allows : (ℕ → Option ℕ) → (ℕ → Option Rights) → Access → ℕ → Bool
view_allows see rights = λ kind at. may kind (at_place None rights (see at))

-- whether an address shows a byte of memory
abbrev pub is_seen : (ℕ → Option ℕ) → Pages → ℕ → Bool
is_seen see m at = at_place false (holds m) (see at)

-- whether none of so many addresses, from one on, fails a test
abbrev pub all_pass : (ℕ → Bool) → ℕ → ℕ → Bool
all_pass test at len = is_none (first_refused test at len)

-- so many addresses, from one on, that show places of one page of memory
pub record IsRun (see : ℕ → Option ℕ) (m : Pages) (at : ℕ) (run : PageRun) : Type 0 where
  pub some : 1 ≤ run.len
  pub seen : (i : ℕ) → i < run.len → see (at + i) ≡ Some (run.place + i)
  pub end : at + run.len ≤ 2 ^ 64
  pub place_end : run.place + run.len < 2 ^ 64
  pub inside : InPage m run.place run.len
  pub page : run.page ≡ page_of m run.place
  pub low : run.page < m.pages

-- so many addresses that show one page of memory, from a place on, and allow an access
pub record OnePage (see : ℕ → Option ℕ) (m : Pages) (kind : Access) (at width place : ℕ) : Type 0 where
  pub seen : (i : ℕ) → i < width → see (at + i) ≡ Some (place + i)
  pub end : at + width ≤ 2 ^ 64
  pub place_end : place + width < 2 ^ 64
  pub page : InPage m place width
  pub allowed : (i : ℕ) → i < width → view_allows see (rights_at m) kind (at + i) ≡ true

-- A page that is remembered is seen, and code may be run there, or nothing is remembered. `starts` is how many of its
-- addresses begin four bytes that lie in it.
pub record IsCode (see : ℕ → Option ℕ) (m : Pages) (code : CodePage) : Type 0 where
  pub few : code.starts ≤ 4093
  pub page : 0 < code.starts → OnePage see m Fetch code.virt 4096 code.place
