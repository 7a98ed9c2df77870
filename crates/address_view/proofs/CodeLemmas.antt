-- A page of code that is remembered.
use Rattle.std.proofs.Common.{◌≡◌, ℕ, ◌+◌, ◌-◌, ◌%◌, ◌^◌, ◌<◌, ◌≤◌, Bool, sym, ap, ◌∙◌, arith}
use Rattle.std.specs.Prelude.{Option, Some, Ok}
use Rattle.uh_base.specs.Bytes.{number_at}
use Rattle.rv_step.specs.Exec.{AreHalves}
use Rattle.rv_step.specs.declared.bus.Access.{Access}
use Rattle.rv_step.specs.declared.bus.Access.TheVariants.{Fetch}
use Rattle.guest_memory.specs.Pages.{Pages, InPage, bytes_of, rights_at}
use Rattle.address_view.specs.Windows.{seen_bytes}
use Rattle.address_view.specs.Seen.{view_allows, OnePage, IsCode}
use Rattle.address_view.specs.declared.code.CodePage.{CodePage}
use Rattle.address_view.proofs.RunLemmas.{half_inside, other_inside, halves_loaded}

part : (see : ℕ → Option ℕ) (m : Pages) (kind : Access) (at place width into n : ℕ) → into + n ≤ width → OnePage see m kind at width place → OnePage see m kind (at + into) n (place + into)
part see m kind at place width into n room one =
    let low = one.page.low in let high = one.page.high in let edge = one.page.one in let e = one.end in let pe = one.place_end in
    record {
      seen = λ i below. (let a : at + (into + i) ≡ at + into + i = omega arith in
          let b : place + (into + i) ≡ place + into + i = omega arith in
          ap see (sym a) ∙ one.seen (into + i) (omega arith) ∙ ap Some b);
      end = omega arith;
      place_end = omega arith;
      page = record { low = omega arith; high = omega arith; one = omega arith };
      allowed = λ i below. (let a : at + (into + i) ≡ at + into + i = omega arith in
          ap (view_allows see (rights_at m) kind) (sym a) ∙ one.allowed (into + i) (omega arith));
    }

module _ (see : ℕ → Option ℕ) (m : Pages) (code : CodePage) (at into : ℕ) (is : IsCode see m code) (below : into < code.starts) where
  whole : OnePage see m Fetch code.virt 4096 code.place
  whole = is.page (omega arith)

  here : OnePage see m Fetch (code.virt + into) 4 (code.place + into)
  here = part see m Fetch code.virt code.place 4096 into 4 (let f = is.few in omega arith) whole

  pub room : code.place + into + 4 < 2 ^ 64
  room = let e = here.place_end in omega arith

  pub first_inside : InPage m (code.place + into) 2
  first_inside = half_inside see m Fetch (code.virt + into) (code.place + into) here

  pub second_inside : InPage m (code.place + into + 2) 2
  second_inside = other_inside see m Fetch (code.virt + into) (code.place + into) here

  pub are_halves : (a b : ℕ) → at < 2 ^ 64 → code.virt < 2 ^ 64 → (at + (2 ^ 64 - code.virt)) % 2 ^ 64 ≡ into → a ≡ number_at (bytes_of m) (code.place + into) 2 → b ≡ number_at (bytes_of m) (code.place + into + 2) 2
      → AreHalves (seen_bytes see (bytes_of m)) (view_allows see (rights_at m) Fetch) at (a, b)
  are_halves a b fits low e p q =
      let end = here.end in
      let is_at : at ≡ code.virt + into = omega arith in
      let h = halves_loaded see m Fetch (code.virt + into) (code.place + into) here in
      rw is_at (h.0 ∙ ap Ok (sym p), h.1 ∙ ap Ok (sym q))

still : (see : ℕ → Option ℕ) (m n : Pages) (at width place : ℕ) → view_allows see (rights_at n) ≡ view_allows see (rights_at m) → n.base ≡ m.base → n.pages ≡ m.pages
    → OnePage see m Fetch at width place → OnePage see n Fetch at width place
still see m n at width place rights base pages one =
    let low = one.page.low in let high = one.page.high in
    record {
      seen = one.seen;
      end = one.end;
      place_end = one.place_end;
      page = record { low = omega (arith, base); high = omega (arith, base, pages); one = one.page.one };
      allowed = λ i below. ap (λ (f : Access → ℕ → Bool). f Fetch (at + i)) rights ∙ one.allowed i below;
    }

pub stays : (see : ℕ → Option ℕ) (m n : Pages) (code : CodePage) → view_allows see (rights_at n) ≡ view_allows see (rights_at m) → n.base ≡ m.base → n.pages ≡ m.pages → IsCode see m code → IsCode see n code
stays see m n code rights base pages is = record {
  few = is.few;
  page = λ some. still see m n code.virt 4096 code.place rights base pages (is.page some);
}

none_there : (n : ℕ) → n ≡ 0 → 0 < n → ⊥
none_there n e h = omega arith

pub none_is : (code : CodePage) → code.starts ≡ 0 → (see : ℕ → Option ℕ) (m : Pages) → IsCode see m code
none_is code none see m = record { few = omega (arith, none); page = λ some. absurd (none_there code.starts none some) }
