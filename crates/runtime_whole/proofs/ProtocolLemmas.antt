-- Services on handles and protocols.
use Rattle.std.proofs.Common.{◌≡◌, ℕ, ◌*◌, Bool, true, false, List, [], ◌∷◌, length, refl, sym, ◌∙◌, arith}
use Rattle.std.specs.Prelude.{◌==◌, ◌&&◌, nat_lt, Option, Some, None, Result, Ok, Err, if◌then◌else◌}
use Rattle.uh_base.specs.Limits.{frame_limit}
use Rattle.uh_base.specs.LittleEndian.{low_bytes}
use Rattle.uh_base.specs.Statuses.{success, invalid_parameter, not_found, buffer_too_small, unsupported, out_of_resources}
use Rattle.uh_base.specs.declared.guid.Guid.{Guid}
use Rattle.service_answer.specs.Answers.{Answer, gives, announces, lacks_frames}
use Rattle.guest_memory.specs.Lists.{count_true}
use Rattle.guest_memory.specs.Pages.{Pages}
use Rattle.page_alloc.specs.Pages.{PageList}
use Rattle.page_alloc.specs.Pages as pages
use Rattle.page_alloc.specs.Laws.{CallsLeaveOthers}
use Rattle.pool_alloc.specs.declared.span.PageSpan.{PageSpan}
use Rattle.pool_alloc.specs.declared.refusal.PoolRefusal.{PoolRefusal}
use Rattle.pool_alloc.specs.Pool.{BlockPage}
use Rattle.pool_alloc.specs.Calls.{Done as PoolDone, pool_allocation, pages_allocated}
use Rattle.address_view.specs.Ranges.{lacks_ranges}
use Rattle.address_view.specs.Stored.{lacks_seen, store_seen, stored}
use Rattle.guest_call.specs.Arguments.{argument, low_word}
use Rattle.guest_call.specs.Checks.{can_read, can_write, can_write_buffer, number_seen}
use Rattle.guest_call.specs.Inputs.{can_read_optional, guid_seen}
use Rattle.guest_call.specs.Outputs.{optional}
use Rattle.handle_db.specs.declared.entry.OpenEntry.{OpenEntry}
use Rattle.handle_db.specs.Calls.{guids_in}
use Rattle.handle_db.specs.Database.{is_handle, interface_in}
use Rattle.protocol_db.specs.declared.refusal.ProtocolRefusal.{ProtocolRefusal}
use Rattle.protocol_db.specs.declared.request.OpenRequest.{OpenRequest}
use Rattle.protocol_db.specs.Registrations.{Protocols, first_taken}
use Rattle.protocol_db.specs.Calls.{Done, Installation, installation, InstallationOfAll, installation_of_all, uninstallation, uninstallation_of_all, reinstallation, protocol_opening, closing, information}
use Rattle.protocol_services.specs.declared.outputs.ListOutputs.{ListOutputs}
use Rattle.protocol_services.specs.declared.service.ProtocolService.{ProtocolService}
use Rattle.protocol_services.specs.declared.service.ProtocolService.TheVariants as services
use Rattle.protocol_services.specs.Refusals.{protocol_status}
use Rattle.protocol_services.specs.Outputs.{MemoryDone, ProtocolDone, refused, invalid, number_given, beside, number_and}
use Rattle.protocol_services.specs.Finding.{interface_told, handle_protocol, located, taken, location_told, locate_protocol}
use Rattle.protocol_services.specs.Installing.{handle_asked, installed, install_protocol_interface, reinstalled, reinstall_protocol_interface, changed, uninstall_protocol_interface}
use Rattle.protocol_services.specs.Pairs.{pairs_of}
use Rattle.protocol_services.specs.Multiple.{handle_written, all_installed, pairs_installed, install_multiple_protocol_interfaces, all_uninstalled, pairs_uninstalled, uninstall_multiple_protocol_interfaces}
use Rattle.protocol_services.specs.Opening.{request_of, tells_none, not_opened, opened, may_open, open_protocol, close_protocol}
use Rattle.protocol_services.specs.Searching.{handles_found, found_taken, words, size_and_buffer, handles_told, handles_fitted, handles_given, is_made, with_found_taken, locate_handle}
use Rattle.protocol_services.specs.Blocks.{BlockDone, block_refused, block_type, as_ram, with_contents, outputs_written, if_frames, block_given, none_given, list_given, block_address}
use Rattle.protocol_services.specs.Blocks as blocks
use Rattle.protocol_services.specs.Lists.{entries_bytes, information_given, open_protocol_information, guid_list, guids_given, protocols_per_handle, found_given, locate_handle_buffer, buffer_taken}
use Rattle.protocol_services.specs.Services.{service_of, ServiceDone, on_pages, with_protocols, served, serve_protocol}
use Rattle.runtime_whole.specs.Laws.{HandlesKeep}
use Rattle.runtime_whole.specs.Services.{ProtocolServicesKeep}
use Rattle.runtime_whole.proofs.MarkLemmas.{Grows, grows_on, itself, stored_grows, Leads, one_of}
use Rattle.runtime_whole.proofs.PageLemmas.{not_conventional, given_free}
use Rattle.runtime_whole.proofs.PoolLemmas.{Took, took}
use Rattle.runtime_whole.proofs.KeepLemmas.{Keeps, keeps_on, nothing, apart_marked, Guarded}
use Rattle.runtime_whole.proofs.ServiceLemmas.{kept, grown, span_taken}
use Rattle.runtime_whole.proofs.MadeLemmas.{Rises, RisesTo, RisesIn, installation_rises, all_installation_rises, reinstallation_rises, uninstallation_rises, opening_rises, closing_rises, all_uninstallation_rises, taken_rises}

-- ---- services that write and change protocols

-- memory grows, and no fewer handles were made
record Serves (m : Pages) (p : Protocols) (d : ProtocolDone) : Type 0 where
  grows : Grows m d.memory
  rises : Rises p d.protocols

module _ (see : ℕ → Option ℕ) (m : Pages) (p : Protocols) where
  either : (b : Bool) (a c : ProtocolDone) → Serves m p a → Serves m p c → Serves m p (if b then a else c)
  either true a c h k = h
  either false a c h k = k

  same : (answer : Answer) (q : Protocols) → Rises p q → Serves m p (record { answer = answer; memory = m; protocols = q })
  same answer q h = record { grows = itself m; rises = h }

  as_before : (status : ℕ) → Serves m p (refused m p status)
  as_before status = same (gives status) p (omega arith)

  -- where a call is refused unless its arguments are right
  or_invalid : (b : Bool) (d : ProtocolDone) → Serves m p d → Serves m p (if b then d else invalid m p)
  or_invalid b d h = either b d (invalid m p) h (as_before invalid_parameter)

  and_number : (at width number : ℕ) (answer : Answer) (after : Protocols) → Rises p after → Serves m p (number_and see m p at width number answer after)
  and_number at width number answer after h =
      either (lacks_seen see m at width) (record { answer = lacks_frames; memory = m; protocols = p }) (record { answer = answer; memory = store_seen see m at width number; protocols = after }) (same lacks_frames p (omega arith))
      (record { grows = stored_grows see m at (low_bytes width number); rises = h })

  abbrev memory_in : MemoryDone → Pages
  memory_in d = d.memory

  number_grows : (at width number value : ℕ) → Leads memory_in m (number_given see m at width number value)
  number_grows at width number value =
      one_of memory_in (lacks_seen see m at width) m (record { answer = lacks_frames; memory = m }) (record { answer = gives value; memory = store_seen see m at width number }) (record { grows = itself m }) (record { grows = stored_grows see m at (low_bytes width number) })

  told : (at : ℕ) (interface : Option ℕ) → Serves m p (beside p (interface_told see m at interface))
  told at None = record { grows = (number_grows at 8 0 unsupported).grows; rises = omega arith }
  told at (Some interface) = record { grows = (number_grows at 8 interface success).grows; rises = omega arith }

  handles : (x : List ℕ) → Serves m p (handle_protocol x see m p)
  unfolding handle_protocol
  handles x =
      let found = interface_in p.handles (argument 0 x) (guid_seen see m (argument 1 x)) in
      or_invalid (can_read see m (argument 1 x) 16 && (can_write see m (argument 2 x) 8 && is_handle p.handles (argument 0 x))) (beside p (interface_told see m (argument 2 x) found)) (told (argument 2 x) found)

  key_taken : (key : ℕ) → Rises p (taken p key)
  key_taken key = by (key == 0)
    where
      by : (b : Bool) → Rises p (if b then p else first_taken p key)
      by true = omega arith
      by false = taken_rises p key

  location : (at key : ℕ) (found : Option ℕ) → Serves m p (location_told see m p at key found)
  location at key None = and_number at 8 0 (gives not_found) p (omega arith)
  location at key (Some interface) = and_number at 8 interface (gives success) (taken p key) (key_taken key)

  locates : (x : List ℕ) → Serves m p (locate_protocol x see m p)
  unfolding locate_protocol
  locates x =
      let found = located p (guid_seen see m (argument 0 x)) (argument 1 x) in
      or_invalid (can_read see m (argument 0 x) 16 && can_write see m (argument 2 x) 8) (location_told see m p (argument 2 x) (argument 1 x) found) (location (argument 2 x) (argument 1 x) found)

  -- ---- installing

  install : (at : ℕ) (r : Result (Done Installation) ProtocolRefusal) → RisesTo p r → Serves m p (installed see m p at r)
  install at (Ok done) h = and_number at 8 done.answer.handle (announces success done.answer.events) done.after h
  install at (Err refusal) h = as_before (protocol_status refusal)

  installs : (x : List ℕ) → Serves m p (install_protocol_interface x see m p)
  unfolding install_protocol_interface
  installs x =
      let asked = handle_asked (number_seen see m (argument 0 x) 8) in
      let guid = guid_seen see m (argument 1 x) in
      or_invalid (can_write see m (argument 0 x) 8 && (can_read see m (argument 1 x) 16 && low_word (argument 2 x) == 0)) (installed see m p (argument 0 x) (installation p asked guid (argument 3 x)))
      (install (argument 0 x) (installation p asked guid (argument 3 x)) (installation_rises p asked guid (argument 3 x)))

  reinstall : (r : Result (Done Installation) ProtocolRefusal) → RisesTo p r → Serves m p (reinstalled m p r)
  reinstall (Ok done) h = same (announces success done.answer.events) done.after h
  reinstall (Err refusal) h = as_before (protocol_status refusal)

  reinstalls : (x : List ℕ) → Serves m p (reinstall_protocol_interface x see m p)
  unfolding reinstall_protocol_interface
  reinstalls x =
      let guid = guid_seen see m (argument 1 x) in
      let r = reinstallation p (argument 0 x) guid (argument 2 x) (argument 3 x) in
      or_invalid (can_read see m (argument 1 x) 16) (reinstalled m p r) (reinstall r (reinstallation_rises p (argument 0 x) guid (argument 2 x) (argument 3 x)))

  change : (r : Result Protocols ProtocolRefusal) → RisesIn p r → Serves m p (changed m p r)
  change (Ok new) h = same (gives success) new h
  change (Err refusal) h = as_before (protocol_status refusal)

  uninstalls : (x : List ℕ) → Serves m p (uninstall_protocol_interface x see m p)
  unfolding uninstall_protocol_interface
  uninstalls x =
      let guid = guid_seen see m (argument 1 x) in
      or_invalid (can_read see m (argument 1 x) 16) (changed m p (uninstallation p (argument 0 x) guid (argument 2 x))) (change (uninstallation p (argument 0 x) guid (argument 2 x)) (uninstallation_rises p (argument 0 x) guid (argument 2 x)))

  install_all : (at : ℕ) (r : Result (Done InstallationOfAll) ProtocolRefusal) → RisesTo p r → Serves m p (all_installed see m p at r)
  install_all at (Ok done) h = and_number at 8 (handle_written done.answer.handle) (announces success done.answer.events) done.after h
  install_all at (Err refusal) h = as_before (protocol_status refusal)

  install_pairs : (at : ℕ) (pairs : Option (List (Guid × ℕ))) → Serves m p (pairs_installed see m p at pairs)
  install_pairs at None = as_before invalid_parameter
  install_pairs at (Some []) = as_before success
  install_pairs at (Some (pair ∷ pairs)) =
      let asked = handle_asked (number_seen see m at 8) in install_all at (installation_of_all p asked (pair ∷ pairs)) (all_installation_rises p asked (pair ∷ pairs))

  installs_all : (x : List ℕ) → Serves m p (install_multiple_protocol_interfaces x see m p)
  unfolding install_multiple_protocol_interfaces
  installs_all x = or_invalid (can_write see m (argument 0 x) 8) (pairs_installed see m p (argument 0 x) (pairs_of x see m)) (install_pairs (argument 0 x) (pairs_of x see m))

  uninstall_all : (r : Result Protocols ProtocolRefusal) → RisesIn p r → Serves m p (all_uninstalled m p r)
  uninstall_all (Ok new) h = same (gives success) new h
  uninstall_all (Err refusal) h = as_before invalid_parameter

  uninstall_pairs : (number : ℕ) (pairs : Option (List (Guid × ℕ))) → Serves m p (pairs_uninstalled m p number pairs)
  uninstall_pairs number None = as_before invalid_parameter
  uninstall_pairs number (Some pairs) = uninstall_all (uninstallation_of_all p number pairs) (all_uninstallation_rises p number pairs)

  uninstalls_all : (x : List ℕ) → Serves m p (uninstall_multiple_protocol_interfaces x see m p)
  unfolding uninstall_multiple_protocol_interfaces
  uninstalls_all x = uninstall_pairs (argument 0 x) (pairs_of x see m)

  -- ---- opening

  not_open : (at : ℕ) (r : OpenRequest) (refusal : ProtocolRefusal) → Serves m p (not_opened see m p at r refusal)
  not_open at r refusal =
      either (tells_none r refusal) (number_and see m p at 8 0 (gives (protocol_status refusal)) p) (refused m p (protocol_status refusal)) (and_number at 8 0 (gives (protocol_status refusal)) p (omega arith))
      (as_before (protocol_status refusal))

  opening : (at : ℕ) (r : OpenRequest) (judged : Result (Done ℕ) ProtocolRefusal) → RisesTo p judged → Serves m p (opened see m p at r judged)
  opening at r (Ok done) h = and_number at (optional at 8) done.answer (gives success) done.after h
  opening at r (Err refusal) h = not_open at r refusal

  opens : (x : List ℕ) → Serves m p (open_protocol x see m p)
  unfolding open_protocol
  opens x =
      let r = request_of x see m in
      or_invalid (may_open see m (argument 1 x) (argument 2 x) (low_word (argument 5 x))) (opened see m p (argument 2 x) r (protocol_opening p r)) (opening (argument 2 x) r (protocol_opening p r) (opening_rises p r))

  closes : (x : List ℕ) → Serves m p (close_protocol x see m p)
  unfolding close_protocol
  closes x =
      let guid = guid_seen see m (argument 1 x) in
      let r = closing p (argument 0 x) guid (argument 2 x) (argument 3 x) in
      or_invalid (can_read see m (argument 1 x) 16) (changed m p r) (change r (closing_rises p (argument 0 x) guid (argument 2 x) (argument 3 x)))

  -- ---- searching

  written_all : (size_at buffer : ℕ) (list : List ℕ) → Leads memory_in m (handles_told see m size_at buffer list)
  written_all size_at buffer list =
      let one = store_seen see m size_at 8 (8 * length list) in
      one_of memory_in (lacks_ranges see m (size_and_buffer size_at buffer (8 * length list))) m (record { answer = lacks_frames; memory = m }) (record { answer = gives success; memory = stored see one buffer (words list) }) (record { grows = itself m })
      (record { grows = grows_on m one (stored see one buffer (words list)) (stored_grows see m size_at (low_bytes 8 (8 * length list))) (stored_grows see one buffer (words list)) })

  fitted : (size_at buffer : ℕ) (list : List ℕ) (room : ℕ) → Leads memory_in m (handles_fitted see m size_at buffer list room)
  fitted size_at buffer list room =
      let none : MemoryDone = record { answer = gives invalid_parameter; memory = m } in
      one_of memory_in (nat_lt room (8 * length list)) m (number_given see m size_at 8 (8 * length list) buffer_too_small) (if can_write_buffer see m buffer room then handles_told see m size_at buffer list else none)
      (number_grows size_at 8 (8 * length list) buffer_too_small) (one_of memory_in (can_write_buffer see m buffer room) m (handles_told see m size_at buffer list) none (written_all size_at buffer list) (record { grows = itself m }))

  given : (size_at buffer : ℕ) (found : Option (List ℕ)) → Leads memory_in m (handles_given see m size_at buffer found)
  given size_at buffer None = record { grows = itself m }
  given size_at buffer (Some []) = record { grows = itself m }
  given size_at buffer (Some (handle ∷ list)) = fitted size_at buffer (handle ∷ list) (number_seen see m size_at 8)

  kind_taken : (kind key : ℕ) → Rises p (found_taken p kind key)
  kind_taken kind key = by (kind == 1)
    where
      by : (b : Bool) → Rises p (if b then first_taken p key else p)
      by true = taken_rises p key
      by false = omega arith

  made_taken : (b : Bool) (kind key : ℕ) → Rises p (if b then found_taken p kind key else p)
  made_taken true kind key = kind_taken kind key
  made_taken false kind key = omega arith

  searches : (x : List ℕ) → Serves m p (locate_handle x see m p)
  unfolding locate_handle
  searches x =
      let kind = low_word (argument 0 x) in
      let done = handles_given see m (argument 3 x) (argument 4 x) (handles_found see m p kind (argument 1 x) (argument 2 x)) in
      or_invalid (can_read_optional see m (argument 1 x) 16 && can_write see m (argument 3 x) 8) (with_found_taken p kind (argument 2 x) done)
      (record { grows = (given (argument 3 x) (argument 4 x) (handles_found see m p kind (argument 1 x) (argument 2 x))).grows; rises = made_taken (is_made done.answer) kind (argument 2 x) })

-- ---- services that give blocks

-- the pages that are taken for a block are cleared, if there are any
opened_kept : CallsLeaveOthers → (m : Pages) (list : PageList) (pool : List BlockPage) (t size : ℕ) (done : PoolDone) → pages.Whole list → list.base ≡ m.base → pool_allocation pool list t size ≡ Ok done → (span : Option PageSpan)
    → pages_allocated pool list t size ≡ span → Keeps Guarded m (blocks.opened m span) list done.pages
opened_kept leave m list pool t size done wp base e span d =
    let map : Took list done.pages = took leave pool list t size done e in
    by map span d
  where
    by : Took list done.pages → (s : Option PageSpan) → pages_allocated pool list t size ≡ s → Keeps Guarded m (blocks.opened m s) list done.pages
    by map None h = record {
      base = refl;
      count = refl;
      map_base = map.base;
      map_long = map.long;
      page = λ x page there g. map.others x page there (not_conventional list x page wp there g);
      mark = λ x page there g marked. marked;
    }
    by map (Some s) h = record {
      base = refl;
      count = refl;
      map_base = map.base;
      map_long = map.long;
      page = λ x page there g. map.others x page there (not_conventional list x page wp there g);
      mark = λ x page there g marked. apart_marked m list s.start s.count x base (given_free leave list 0 t s.count 0 s.start x page wp (span_taken pool list t size s h) there g) marked;
    }

-- the state of pages behind a block that is given
record Blocks (m : Pages) (list : PageList) (d : BlockDone) : Type 0 where
  keeps : Keeps Guarded m d.memory list d.pages

module _ (leave : CallsLeaveOthers) (see : ℕ → Option ℕ) (m : Pages) (list : PageList) (pool : List BlockPage) (wp : pages.Whole list) (base : list.base ≡ m.base) where
  block_or : (b : Bool) (a c : BlockDone) → Blocks m list a → Blocks m list c → Blocks m list (if b then a else c)
  block_or true a c h k = h
  block_or false a c h k = k

  no_block : (answer : Answer) → Blocks m list (record { answer = answer; memory = m; pages = list; pool = pool })
  no_block answer = record { keeps = nothing Guarded m list }

  if_enough : (d : BlockDone) → Blocks m list d → Blocks m list (if_frames m list pool d)
  if_enough d h = block_or (nat_lt frame_limit (count_true d.memory.touched)) (record { answer = lacks_frames; memory = m; pages = list; pool = pool }) d (no_block lacks_frames) h

  outputs_grow : (n : Pages) (o : ListOutputs) (at count : ℕ) → Grows n (outputs_written see n o at count)
  outputs_grow n o at count =
      let one = blocks.first_written see n o at count in
      grows_on n one (outputs_written see n o at count) (stored_grows see n o.first (low_bytes 8 (blocks.first_value o at count))) (stored_grows see one o.second (low_bytes 8 (blocks.second_value o at count)))

  block_is : (o : ListOutputs) (bytes : List ℕ) (count : ℕ) (r : Result PoolDone PoolRefusal) → pool_allocation pool list block_type (length bytes) ≡ r → Blocks m list (block_given see m list pool o bytes count (pages_allocated pool list block_type (length bytes)) r)
  block_is o bytes count (Ok given) e =
      let span = pages_allocated pool list block_type (length bytes) in
      let filled = with_contents m span given.answer bytes in
      let done : BlockDone = record { answer = gives success; memory = outputs_written see filled o given.answer count; pages = given.pages; pool = given.pool } in
      let first : Keeps Guarded m (blocks.opened m span) list given.pages = opened_kept leave m list pool block_type (length bytes) given wp base e span refl in
      let second : Keeps Guarded (blocks.opened m span) filled given.pages given.pages = grown (blocks.opened m span) filled given.pages (stored_grows (as_ram m) (blocks.opened m span) given.answer bytes) in
      let third : Keeps Guarded filled done.memory given.pages given.pages = grown filled done.memory given.pages (outputs_grow filled o given.answer count) in
      if_enough done (record { keeps = keeps_on Guarded m filled done.memory list given.pages given.pages (keeps_on Guarded m (blocks.opened m span) filled list given.pages given.pages first second) third })
  block_is o bytes count (Err refusal) e = no_block (gives out_of_resources)

  none_is : (o : ListOutputs) (count : ℕ) → Blocks m list (none_given see m list pool o count)
  none_is o count =
      let done : BlockDone = record { answer = gives success; memory = outputs_written see m o 0 count; pages = list; pool = pool } in if_enough done (record { keeps = grown m done.memory list (outputs_grow m o 0 count) })

  list_is : (o : ListOutputs) (bytes : List ℕ) (count : ℕ) → Blocks m list (list_given see m list pool o bytes count)
  list_is o bytes count =
      let r = pool_allocation pool list block_type (length bytes) in
      block_or (length bytes == 0) (none_given see m list pool o count) (block_given see m list pool o bytes count (pages_allocated pool list block_type (length bytes)) r) (none_is o count) (block_is o bytes count r refl)

  information_is : (o : ListOutputs) (r : Result (List OpenEntry) ProtocolRefusal) → Blocks m list (information_given see m list pool o r)
  information_is o (Ok opens) = list_is o (entries_bytes opens) (length opens)
  information_is o (Err refusal) = no_block (gives (protocol_status refusal))

  informs : (x : List ℕ) (p : Protocols) → Blocks m list (open_protocol_information x see m list pool p)
  unfolding open_protocol_information
  informs x p =
      let o : ListOutputs = record { first = argument 2 x; second = argument 3 x; count_first = false } in
      let r = information p (argument 0 x) (guid_seen see m (argument 1 x)) in
      block_or (can_read see m (argument 1 x) 16 && (can_write see m (argument 2 x) 8 && can_write see m (argument 3 x) 8)) (information_given see m list pool o r) (block_refused m list pool invalid_parameter) (information_is o r)
      (no_block (gives invalid_parameter))

  guids_are : (o : ListOutputs) (guids : List Guid) → Blocks m list (guids_given see m list pool o guids)
  guids_are o guids = list_is o (guid_list guids (block_address list pool (24 * length guids))) (length guids)

  lists : (x : List ℕ) (p : Protocols) → Blocks m list (protocols_per_handle x see m list pool p)
  unfolding protocols_per_handle
  lists x p =
      let o : ListOutputs = record { first = argument 1 x; second = argument 2 x; count_first = false } in
      let guids = guids_in p.handles (argument 0 x) in
      block_or (can_write see m (argument 1 x) 8 && (can_write see m (argument 2 x) 8 && is_handle p.handles (argument 0 x))) (guids_given see m list pool o guids) (block_refused m list pool invalid_parameter) (guids_are o guids)
      (no_block (gives invalid_parameter))

  found_is : (o : ListOutputs) (found : Option (List ℕ)) → Blocks m list (found_given see m list pool o found)
  found_is o None = no_block (gives invalid_parameter)
  found_is o (Some []) = no_block (gives not_found)
  found_is o (Some (handle ∷ more)) = list_is o (words (handle ∷ more)) (length (handle ∷ more))

  buffers : (x : List ℕ) (p : Protocols) → Blocks m list (locate_handle_buffer x see m list pool p)
  unfolding locate_handle_buffer
  buffers x p =
      let o : ListOutputs = record { first = argument 3 x; second = argument 4 x; count_first = true } in
      let found = handles_found see m p (low_word (argument 0 x)) (argument 1 x) (argument 2 x) in
      block_or (can_read_optional see m (argument 1 x) 16 && (can_write see m (argument 3 x) 8 && can_write see m (argument 4 x) 8)) (found_given see m list pool o found) (block_refused m list pool invalid_parameter) (found_is o found)
      (no_block (gives invalid_parameter))

  -- ---- all

  record Served (p : Protocols) (d : ServiceDone) : Type 0 where
    keeps : Keeps Guarded m d.memory list d.pages
    rises : Rises p d.protocols

  of_protocols : (p : Protocols) (d : ProtocolDone) → Serves m p d → Served p (on_pages list pool d)
  of_protocols p d h = record { keeps = grown m d.memory list h.grows; rises = h.rises }

  of_block : (p q : Protocols) (d : BlockDone) → Blocks m list d → Rises p q → Served p (with_protocols q d)
  of_block p q d h k = record { keeps = h.keeps; rises = k }

  serves : (service : ProtocolService) (x : List ℕ) (p : Protocols) → Served p (served service x see m list pool p)
  unfolding served
  serves services.InstallProtocolInterface x p = of_protocols p (install_protocol_interface x see m p) (installs see m p x)
  serves services.ReinstallProtocolInterface x p = of_protocols p (reinstall_protocol_interface x see m p) (reinstalls see m p x)
  serves services.UninstallProtocolInterface x p = of_protocols p (uninstall_protocol_interface x see m p) (uninstalls see m p x)
  serves services.HandleProtocol x p = of_protocols p (handle_protocol x see m p) (handles see m p x)
  serves services.LocateHandle x p = of_protocols p (locate_handle x see m p) (searches see m p x)
  serves services.OpenProtocol x p = of_protocols p (open_protocol x see m p) (opens see m p x)
  serves services.CloseProtocol x p = of_protocols p (close_protocol x see m p) (closes see m p x)
  serves services.OpenProtocolInformation x p = of_block p p (open_protocol_information x see m list pool p) (informs x p) (omega arith)
  serves services.ProtocolsPerHandle x p = of_block p p (protocols_per_handle x see m list pool p) (lists x p) (omega arith)
  serves services.LocateHandleBuffer x p =
      let d = locate_handle_buffer x see m list pool p in of_block p (buffer_taken x p d.answer) d (buffers x p) (made_taken see m p (is_made d.answer) (low_word (argument 0 x)) (argument 2 x))
  serves services.LocateProtocol x p = of_protocols p (locate_protocol x see m p) (locates see m p x)
  serves services.InstallMultipleProtocolInterfaces x p = of_protocols p (install_multiple_protocol_interfaces x see m p) (installs_all see m p x)
  serves services.UninstallMultipleProtocolInterfaces x p = of_protocols p (uninstall_multiple_protocol_interfaces x see m p) (uninstalls_all see m p x)

pub protocols_keep : CallsLeaveOthers → HandlesKeep → ProtocolServicesKeep
protocols_keep leave handle_law r images slot x shown pool p b wp =
    let d = serve_protocol slot x shown r.memory r.pages pool p in
    let s = serves leave shown r.memory r.pages pool wp (b.ram.map_base ∙ sym b.ram.base) (service_of slot) x p in
    handle_law (record r { memory = d.memory; pages = d.pages }) images p.handles.made d.protocols.handles.made (kept r images p.handles.made d.memory d.pages b s.keeps) s.rises
