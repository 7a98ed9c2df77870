-- What installs and uninstalls of pairs come to.
use Rattle.std.proofs.Common.{◌≡◌, ◌∙◌, ℕ, ◌+◌, ◌<◌, ◌≤◌, List, [], ◌∷◌, length, get_or, take, drop, refl, sym, ap, subst, arith, true, false}
use Rattle.std.specs.Prelude.{Option, Some, None, Result, Ok, Err}
use Rattle.std.specs.List.{fold}
use Rattle.std.specs.Option.{is_some}
use Rattle.std.proofs.Math.ListN.{drop_of_length-le}
use Rattle.std.proofs.lemmas.List.{map-id, take_more, at_drop_more}
use Rattle.uh_base.specs.declared.guid.Guid.{Guid}
use Rattle.handle_db.specs.Database.{Database}
use Rattle.handle_db.specs.declared.refusal.HandleRefusal.{HandleRefusal}
use Rattle.handle_db.specs.declared.refusal.HandleRefusal.TheVariants as handle
use Rattle.handle_db.specs.Calls.{Done as HandleDone, AllDone as AllHandleDone, one_more, installed_next, installation as handle_installation, installation_of_all as handle_installation_of_all}
use Rattle.protocol_db.proofs.CallLemmas.{target_is, full_is}
use Rattle.protocol_db.specs.declared.refusal.ProtocolRefusal.{ProtocolRefusal}
use Rattle.protocol_db.specs.declared.refusal.ProtocolRefusal.TheVariants.{Full}
use Rattle.protocol_db.specs.Registrations.{Registration, Protocols, is_for_any, events_for_all, all_notified}
use Rattle.protocol_db.specs.Calls.{target_in, with_pending, installation_of_all, or_later, refusal_after, first_refusal}

-- after a refusal nothing more is installed
pub refused_all : (e : HandleRefusal) (pairs : List (Guid × ℕ)) → fold installed_next (Err e) pairs ≡ Err e
refused_all e [] = refl
refused_all e (pair ∷ pairs) = refused_all e pairs

-- all pairs are installed on one handle
on_same : (pairs : List (Guid × ℕ)) (d : Database) (t : ℕ) (done : AllHandleDone) → fold installed_next (Ok (record { handle = Some t; database = d })) pairs ≡ Ok done → done.handle ≡ Some t
on_same [] d t done e = let is : record { handle = Some t; database = d } ≡ done = cc in subst (λ (it : AllHandleDone). it.handle ≡ Some t) is refl
on_same (pair ∷ pairs) d t done e = by (handle_installation d (Some t) pair.0 pair.1) refl e (λ b h. on_same pairs b t done h)
  where
    by : (o : Result HandleDone HandleRefusal) → handle_installation d (Some t) pair.0 pair.1 ≡ o → fold installed_next (one_more o) pairs ≡ Ok done
        → ((b : Database) → fold installed_next (Ok (record { handle = Some t; database = b })) pairs ≡ Ok done → done.handle ≡ Some t) → done.handle ≡ Some t
    by (Err refusal) k h more = absurd (let no = refused_all refusal pairs in cc)
    by (Ok it) k h more =
        let same : it.handle ≡ t = target_is d (Some t) pair.0 pair.1 t it refl k in
        more it.database (ap (λ n. fold installed_next (Ok (record { handle = Some n; database = it.database })) pairs) (sym same) ∙ h)

on_target : (d : Database) (number : Option ℕ) (pairs : List (Guid × ℕ)) (t : ℕ) (done : AllHandleDone) → 0 < length pairs → target_in d number ≡ Some t → handle_installation_of_all d number pairs ≡ Ok done → done.handle ≡ Some t
unfolding handle_installation_of_all
on_target d number [] t done l target e = absurd (omega arith)
on_target d number (pair ∷ pairs) t done l target e = by (handle_installation d number pair.0 pair.1) refl e
  where
    by : (o : Result HandleDone HandleRefusal) → handle_installation d number pair.0 pair.1 ≡ o → fold installed_next (one_more o) pairs ≡ Ok done → done.handle ≡ Some t
    by (Err refusal) k h = absurd (let no = refused_all refusal pairs in cc)
    by (Ok it) k h =
        let same : it.handle ≡ t = target_is d number pair.0 pair.1 t it target k in
        on_same pairs it.database t done (ap (λ n. fold installed_next (Ok (record { handle = Some n; database = it.database })) pairs) (sym same) ∙ h)

no_target : (d : Database) (number : Option ℕ) (pairs : List (Guid × ℕ)) → 0 < length pairs → target_in d number ≡ None → handle_installation_of_all d number pairs ≡ Err handle.Full
unfolding handle_installation_of_all
no_target d number [] l none = absurd (omega arith)
no_target d number (pair ∷ pairs) l none = rw (full_is d number pair.0 pair.1 none) (refused_all handle.Full pairs)

pub all_full : (p : Protocols) (number : Option ℕ) (pairs : List (Guid × ℕ)) → 0 < length pairs → target_in p.handles number ≡ None → installation_of_all p number pairs ≡ Err Full
unfolding installation_of_all
all_full p number pairs l none = rw (no_target p.handles number pairs l none) refl

pub all_here : (p : Protocols) (hs d : Database) (before after : List Registration) (made : ℕ) (number : Option ℕ) (pairs : List (Guid × ℕ)) (target : ℕ) (h : Option ℕ) (events : List ℕ) → record { handles = hs; registrations = before; made = made } ≡ p → 0 < length pairs
    → handle_installation_of_all hs number pairs ≡ Ok (record { handle = h; database = d }) → target_in p.handles number ≡ Some target → events ≡ events_for_all p.registrations pairs → after ≡ all_notified before (is_for_any pairs) target
    → installation_of_all p number pairs ≡ Ok (record { answer = record { handle = h; events = events }; after = record { handles = d; registrations = after; made = made } })
unfolding installation_of_all
all_here p hs d before after made number pairs target h events e l done is k put =
    let there : handle_installation_of_all p.handles number pairs ≡ Ok (record { handle = h; database = d }) = ap (λ (q : Protocols). handle_installation_of_all q.handles number pairs) (sym e) ∙ done in
    let same : h ≡ Some target = on_target p.handles number pairs target (record { handle = h; database = d }) l is there in
    let counts : made ≡ p.made = ap (λ (q : Protocols). q.made) e in
    let pending : after ≡ all_notified p.registrations (is_for_any pairs) target = put ∙ ap (λ (q : Protocols). all_notified q.registrations (is_for_any pairs) target) e in
    rw there (rw k (rw pending (rw counts (rw same refl))))

-- without a pair nothing is installed
pub none_pending : (rs : List Registration) (number : Option ℕ) → with_pending rs [] number ≡ rs
unfolding all_notified
none_pending rs None = refl
none_pending rs (Some n) = map-id rs

no_pairs : (p : Protocols) (number : Option ℕ) → installation_of_all p number [] ≡ Ok (record { answer = record { handle = number; events = [] }; after = p })
unfolding installation_of_all handle_installation_of_all events_for_all
no_pairs p number = ap (λ rs. Ok (record { answer = record { handle = number; events = [] }; after = record p { registrations = rs } })) (none_pending p.registrations number)

pub nothing_installed : (p : Protocols) (number : Option ℕ) (pairs : List (Guid × ℕ)) (events : List ℕ) → length pairs ≡ 0 → events ≡ [] → installation_of_all p number pairs ≡ Ok (record { answer = record { handle = number; events = events }; after = p })
nothing_installed p number [] events none e = rw e (no_pairs p number)
nothing_installed p number (pair ∷ pairs) events none e = absurd (omega (arith, none))

-- the first pair that is refused
pub next_refusal : (d : Database) (n : ℕ) (pairs : List (Guid × ℕ)) (i : ℕ) (x : Guid × ℕ) → i < length pairs
    → first_refusal d n (take i pairs) (drop i pairs) ≡ or_later (refusal_after d n (take i pairs) (get_or pairs i x)) (first_refusal d n (take (i + 1) pairs) (drop (i + 1) pairs))
unfolding first_refusal
next_refusal d n pairs i x l =
    at_drop_more (λ rest. first_refusal d n (take i pairs) rest) pairs i x l
    ∙ ap (λ before. or_later (refusal_after d n (take i pairs) (get_or pairs i x)) (first_refusal d n before (drop (i + 1) pairs))) (sym (take_more pairs i x l))

pub refused_there : (d : Database) (n : ℕ) (pairs : List (Guid × ℕ)) (i : ℕ) (x : Guid × ℕ) (r wanted : Option ProtocolRefusal) → i < length pairs → r ≡ refusal_after d n (take i pairs) (get_or pairs i x) → is_some r ≡ true
    → first_refusal d n (take i pairs) (drop i pairs) ≡ wanted → r ≡ wanted
refused_there d n pairs i x None wanted l is some so = absurd (cc)
refused_there d n pairs i x (Some refusal) wanted l is some so =
    ap (λ r. or_later r (first_refusal d n (take (i + 1) pairs) (drop (i + 1) pairs))) is ∙ sym (next_refusal d n pairs i x l) ∙ so

pub none_refused : (d : Database) (n : ℕ) (pairs : List (Guid × ℕ)) (i : ℕ) (x : Guid × ℕ) (r wanted : Option ProtocolRefusal) → i < length pairs → r ≡ refusal_after d n (take i pairs) (get_or pairs i x) → is_some r ≡ false
    → first_refusal d n (take i pairs) (drop i pairs) ≡ wanted → first_refusal d n (take (i + 1) pairs) (drop (i + 1) pairs) ≡ wanted
none_refused d n pairs i x (Some refusal) wanted l is none so = absurd (cc)
none_refused d n pairs i x None wanted l is none so =
    ap (λ r. or_later r (first_refusal d n (take (i + 1) pairs) (drop (i + 1) pairs))) is ∙ sym (next_refusal d n pairs i x l) ∙ so

pub all_judged : (d : Database) (n : ℕ) (pairs : List (Guid × ℕ)) (i : ℕ) (wanted : Option ProtocolRefusal) → length pairs ≤ i → first_refusal d n (take i pairs) (drop i pairs) ≡ wanted → None ≡ wanted
unfolding first_refusal
all_judged d n pairs i wanted l so = sym (ap (λ rest. first_refusal d n (take i pairs) rest) (drop_of_length-le pairs l)) ∙ so
