-- Pairs that are installed together come as they come one after another.
use Rattle.std.proofs.Common.{◌≡◌, ◌∙◌, ℕ, List, [], ◌∷◌, ◌++◌, refl, sym, ap, Bool, true, false}
use Rattle.std.specs.Prelude.{map, Option, Some, None, Result, Ok, Err, if◌then◌else◌, ◌||◌}
use Rattle.std.specs.List.{filter, flat_map, fold}
use Rattle.std.proofs.lemmas.List.{append-nil, append_assoc}
use Rattle.std.proofs.lemmas.List.Folds.{list_any-append}
use Rattle.std.proofs.lemmas.Grind.{flat_map-append}
use Rattle.uh_base.specs.declared.guid.Guid.{Guid}
use Rattle.handle_db.specs.Database.{Database}
use Rattle.handle_db.specs.declared.refusal.HandleRefusal.{HandleRefusal}
use Rattle.handle_db.specs.Calls.{Done as HandleDone, one_more as handle_one_more, installed_next as handle_installed_next, installation as handle_installation, installation_of_all as handle_installation_of_all}
use Rattle.protocol_db.proofs.AllLemmas.{refused_all, none_pending}
use Rattle.protocol_db.proofs.CallLemmas.{target_is, one_pair}
use Rattle.protocol_db.proofs.LawLemmas.{pended_is}
use Rattle.protocol_db.specs.declared.refusal.ProtocolRefusal.{ProtocolRefusal}
use Rattle.protocol_db.specs.Registrations.{Registration, Protocols, is_for, is_for_any, events_for, events_for_all, pended, notified, all_notified}
use Rattle.protocol_db.specs.Calls.{Done, InstallationOfAll, refused, installed, installation, with_pending, all_announced, all_installed, installation_of_all}
use Rattle.protocol_db.specs.Laws.{one_more, installed_next, AllInstalledInOrder}

-- A handle that is pending already stays so.
pended_twice : (n : ℕ) (pending : List ℕ) → pended n (pended n pending) ≡ pended n pending
pended_twice n pending = ap (λ c. if c then pended n pending else pended n pending ++ n ∷ []) (pended_is n pending)

notified_twice : (before : List (Guid × ℕ)) (pair : Guid × ℕ) (n : ℕ) (r : Registration) → notified (is_for pair.0) n (notified (is_for_any before) n r) ≡ notified (is_for_any (before ++ pair ∷ [])) n r
notified_twice before pair n r = by (is_for_any before r) (is_for pair.0 r) refl ∙ sym (ap (λ c. if c then record r { pending = pended n r.pending } else r) (list_any-append (λ (q : Guid × ℕ). is_for q.0 r) before (pair ∷ [])))
  where
    by : (a b : Bool) → is_for pair.0 r ≡ b → notified (is_for pair.0) n (if a then record r { pending = pended n r.pending } else r) ≡ (if a || (is_for pair.0 r || false) then record r { pending = pended n r.pending } else r)
    by true true e = ap (λ c. if c then record r { pending = pended n (pended n r.pending) } else record r { pending = pended n r.pending }) e ∙ ap (λ ps. record r { pending = ps }) (pended_twice n r.pending)
    by true false e = ap (λ c. if c then record r { pending = pended n (pended n r.pending) } else record r { pending = pended n r.pending }) e
    by false true e = rw e refl
    by false false e = rw e refl

all_twice : (before : List (Guid × ℕ)) (pair : Guid × ℕ) (n : ℕ) (rs : List Registration) → all_notified (all_notified rs (is_for_any before) n) (is_for pair.0) n ≡ all_notified rs (is_for_any (before ++ pair ∷ [])) n
unfolding all_notified
all_twice before pair n [] = refl
all_twice before pair n (r ∷ rs) = ap (λ q. q ∷ map (notified (is_for pair.0) n) (map (notified (is_for_any before) n) rs)) (notified_twice before pair n r) ∙ ap (λ qs. notified (is_for_any (before ++ pair ∷ [])) n r ∷ qs) (all_twice before pair n rs)

-- Notices leave the events.
event_kept : (is_concerned : Registration → Bool) (n : ℕ) (guid : Guid) (r : Registration) (events : List ℕ) → (if is_for guid (notified is_concerned n r) then (notified is_concerned n r).event ∷ events else events) ≡ (if is_for guid r then r.event ∷ events else events)
event_kept is_concerned n guid r events = by (is_concerned r)
  where
    by : (b : Bool) → (if is_for guid (if b then record r { pending = pended n r.pending } else r) then (if b then record r { pending = pended n r.pending } else r).event ∷ events else events) ≡ (if is_for guid r then r.event ∷ events else events)
    by true = refl
    by false = refl

map_if : (b : Bool) (r : Registration) (rs : List Registration) → map (λ (q : Registration). q.event) (if b then r ∷ rs else rs) ≡ (if b then r.event ∷ map (λ (q : Registration). q.event) rs else map (λ (q : Registration). q.event) rs)
map_if true r rs = refl
map_if false r rs = refl

events_kept : (is_concerned : Registration → Bool) (n : ℕ) (guid : Guid) (rs : List Registration) → events_for (all_notified rs is_concerned n) guid ≡ events_for rs guid
unfolding events_for all_notified
events_kept is_concerned n guid [] = refl
events_kept is_concerned n guid (r ∷ rs) =
    map_if (is_for guid (notified is_concerned n r)) (notified is_concerned n r) (filter (is_for guid) (map (notified is_concerned n) rs))
    ∙ event_kept is_concerned n guid r (map (λ (q : Registration). q.event) (filter (is_for guid) (map (notified is_concerned n) rs)))
    ∙ ap (λ events. if is_for guid r then r.event ∷ events else events) (events_kept is_concerned n guid rs)
    ∙ sym (map_if (is_for guid r) r (filter (is_for guid) rs))

kept_with : (rs : List Registration) (before : List (Guid × ℕ)) (h : Option ℕ) (guid : Guid) → events_for (with_pending rs before h) guid ≡ events_for rs guid
kept_with rs before None guid = refl
kept_with rs before (Some n) guid = events_kept (is_for_any before) n guid rs

events_more : (rs : List Registration) (before : List (Guid × ℕ)) (pair : Guid × ℕ) → events_for_all rs before ++ events_for rs pair.0 ≡ events_for_all rs (before ++ pair ∷ [])
unfolding events_for_all
events_more rs before pair =
    ap (λ es. flat_map (λ (q : Guid × ℕ). events_for rs q.0) before ++ es) (sym (append-nil (events_for rs pair.0))) ∙ sym (flat_map-append (λ (q : Guid × ℕ). events_for rs q.0) before (pair ∷ []))

pending_more : (rs : List Registration) (before : List (Guid × ℕ)) (pair : Guid × ℕ) (d : Database) (h : Option ℕ) (it : HandleDone) → (h ≡ None → before ≡ []) → handle_installation d h pair.0 pair.1 ≡ Ok it
    → all_notified (with_pending rs before h) (is_for pair.0) it.handle ≡ with_pending rs (before ++ pair ∷ []) (Some it.handle)
pending_more rs before pair d None it none e =
    sym (one_pair pair.0 pair.1 it.handle rs) ∙ ap (λ ps. all_notified rs (is_for_any (ps ++ pair ∷ [])) it.handle) (sym (none refl))
pending_more rs before pair d (Some n) it none e =
    let same : it.handle ≡ n = target_is d (Some n) pair.0 pair.1 n it refl e in
    ap (λ k. all_notified (all_notified rs (is_for_any before) n) (is_for pair.0) k) same ∙ all_twice before pair n rs ∙ ap (λ k. all_notified rs (is_for_any (before ++ pair ∷ [])) k) (sym same)

-- what is there after some pairs
abbrev there : Protocols → List (Guid × ℕ) → Option ℕ → Database → Done InstallationOfAll
there p before h d = all_announced p before (record { handle = h; database = d })

step : (p : Protocols) (before : List (Guid × ℕ)) (pair : Guid × ℕ) (d : Database) (h : Option ℕ) (it : HandleDone) → (h ≡ None → before ≡ []) → handle_installation d h pair.0 pair.1 ≡ Ok it
    → installed_next (Ok (there p before h d)) pair ≡ Ok (there p (before ++ pair ∷ []) (Some it.handle) it.database)
unfolding installation
step p before pair d h it none e =
    ap (λ o. one_more (there p before h d) (installed (there p before h d).after pair.0 o)) e
    ∙ ap (λ events. Ok (record { answer = record { handle = Some it.handle; events = events }; after = record p { handles = it.database; registrations = all_notified (with_pending p.registrations before h) (is_for pair.0) it.handle } }))
    (ap (λ es. events_for_all p.registrations before ++ es) (kept_with p.registrations before h pair.0) ∙ events_more p.registrations before pair)
    ∙ ap (λ rs. Ok (record { answer = record { handle = Some it.handle; events = events_for_all p.registrations (before ++ pair ∷ []) }; after = record p { handles = it.database; registrations = rs } }))
    (pending_more p.registrations before pair d h it none e)

stopped : (p : Protocols) (before : List (Guid × ℕ)) (pair : Guid × ℕ) (d : Database) (h : Option ℕ) (refusal : HandleRefusal) → handle_installation d h pair.0 pair.1 ≡ Err refusal → installed_next (Ok (there p before h d)) pair ≡ Err (refused refusal)
unfolding installation
stopped p before pair d h refusal e = ap (λ o. one_more (there p before h d) (installed (there p before h d).after pair.0 o)) e

refused_next : (e : ProtocolRefusal) (pairs : List (Guid × ℕ)) → fold installed_next (Err e) pairs ≡ Err e
refused_next e [] = refl
refused_next e (pair ∷ pairs) = refused_next e pairs

in_order : (p : Protocols) (pairs before : List (Guid × ℕ)) (d : Database) (h : Option ℕ) → (h ≡ None → before ≡ [])
    → all_installed p (before ++ pairs) (fold handle_installed_next (Ok (record { handle = h; database = d })) pairs) ≡ fold installed_next (Ok (there p before h d)) pairs
in_order p [] before d h none = ap (λ ps. Ok (there p ps h d)) (append-nil before)
in_order p (pair ∷ pairs) before d h none =
    by (handle_installation d h pair.0 pair.1) refl (λ (it : HandleDone). in_order p pairs (before ++ pair ∷ []) it.database (Some it.handle) (λ no. absurd (cc)))
  where
    by : (o : Result HandleDone HandleRefusal) → handle_installation d h pair.0 pair.1 ≡ o
        → ((it : HandleDone) → all_installed p ((before ++ pair ∷ []) ++ pairs) (fold handle_installed_next (Ok (record { handle = Some it.handle; database = it.database })) pairs) ≡ fold installed_next (Ok (there p (before ++ pair ∷ []) (Some it.handle) it.database)) pairs)
        → all_installed p (before ++ pair ∷ pairs) (fold handle_installed_next (handle_one_more o) pairs) ≡ fold installed_next (installed_next (Ok (there p before h d)) pair) pairs
    by (Err refusal) e more =
        ap (λ o. all_installed p (before ++ pair ∷ pairs) o) (refused_all refusal pairs) ∙ sym (refused_next (refused refusal) pairs) ∙ sym (ap (λ o. fold installed_next o pairs) (stopped p before pair d h refusal e))
    by (Ok it) e more =
        ap (λ ps. all_installed p ps (fold handle_installed_next (Ok (record { handle = Some it.handle; database = it.database })) pairs)) (sym (append_assoc before (pair ∷ []) pairs))
        ∙ more it ∙ sym (ap (λ o. fold installed_next o pairs) (step p before pair d h it none e))

at_first : (p : Protocols) (number : Option ℕ) → there p [] number p.handles ≡ record { answer = record { handle = number; events = [] }; after = p }
unfolding events_for_all
at_first p number = ap (λ rs. record { answer = record { handle = number; events = [] }; after = record p { registrations = rs } }) (none_pending p.registrations number)

pub all_installed_in_order : AllInstalledInOrder
unfolding installation_of_all handle_installation_of_all
all_installed_in_order p number pairs = in_order p pairs [] p.handles number (λ none. refl) ∙ ap (λ it. fold installed_next (Ok it) pairs) (at_first p number)
