-- What ends of rings have sent and received, and know.
use Rattle.std.specs.Prelude.{◌≡◌, ◌≢◌, ℕ, ◌<◌, List, [], ◌∷◌, ◌++◌, map, length, All, Vec, slice_index, slice_index_or}
use Rattle.std.specs.declared.alloc.Global.{Global}
use denote.RawPtr.{Ptr}
use Rattle.rtrb.specs.Shared.{Names}
use Rattle.rtrb.specs.declared.AnyItems.{AnyItems}
use Rattle.rtrb.specs.declared.producer.Producer.{Producer}
use Rattle.rtrb.specs.declared.consumer.Consumer.{Consumer}
use Rattle.rtrb.specs.Ring.{sent, known_free, received, known_items}
use Rattle.release_lanes.specs.declared.parcel.Parcel.{Parcel}
use Rattle.release_lanes.specs.declared.rings.RingEnd.{RingEnd}
use Rattle.release_lanes.specs.Lanes.{AddsOne, Meets, NothingRests, list_at, lane_at}
use Rattle.release_lanes.specs.Woven.{Outline, IsWoven}

abbrev pub Sender : Type 0
Sender = Producer Parcel Global AnyItems

abbrev pub Receiver : Type 0
Receiver = Consumer Parcel Global AnyItems

-- which ring it is: its memory
abbrev pub Ring : Type 0
Ring = Ptr × Ptr × Names × Global

abbrev pub ring_out : Sender → Ring
ring_out p = (p.end.words, p.end.slots, p.end.names, p.end.heap)

abbrev pub ring_in : Receiver → Ring
ring_in c = (c.end.words, c.end.slots, c.end.names, c.end.heap)

abbrev pub outline : RingEnd → Outline Ring
outline end = record { number = end.number; outs = map ring_out end.outs.items; ins = map ring_in end.ins.items }

abbrev pub outs_of : RingEnd → Vec Sender Global
outs_of end = end.outs

-- what an end has sent, by the node that it went to, and what it has received and knows of, by the node that it came from
abbrev pub sent_row : RingEnd → List (List Parcel)
sent_row end = map sent end.outs.items

abbrev pub received_row : RingEnd → List (List Parcel)
received_row end = map received end.ins.items

abbrev pub known_row : RingEnd → List (List Parcel)
known_row end = map known_items end.ins.items

-- how many slots it knows to be free, by the node
abbrev pub free_row : RingEnd → List ℕ
free_row end = map known_free end.outs.items

-- a ring has a slot
abbrev pub HasSlot : Ring → Type 0
HasSlot ring = 0 < ring.2.0

-- nothing went over a ring, and it has a slot
abbrev pub IsNewSender : Sender → Type 0
IsNewSender sender = (sent sender ≡ []) × HasSlot (ring_out sender)

abbrev pub IsNewReceiver : Receiver → Type 0
IsNewReceiver receiver = (received receiver ≡ []) × (known_items receiver ≡ [])

abbrev pub IsNew : RingEnd → Type 0
IsNew end = All IsNewSender end.outs.items × All IsNewReceiver end.ins.items

-- what one node has sent to another; what it has received of that, and what rests
abbrev pub sent_on : List RingEnd → ℕ → ℕ → List Parcel
sent_on ends from to = lane_at (map sent_row ends) from to

abbrev pub received_on : List RingEnd → ℕ → ℕ → List Parcel
received_on ends from to = lane_at (map received_row ends) to from

abbrev pub rest_on : List RingEnd → ℕ → ℕ → List Parcel
rest_on ends from to = lane_at (map known_row ends) to from

-- what so many ends have received from a node, followed by what they know of, is what it has sent to them
abbrev pub MeetFrom : ℕ → ℕ → (ℕ → List Parcel) → List RingEnd → Type 0
MeetFrom nodes from sent ends = (to : ℕ) → to < nodes → received_on ends from to ++ rest_on ends from to ≡ sent to

-- of a node's slots to so many nodes each is known to be free where all that was sent there was received
abbrev pub AreFreed : ℕ → (ℕ → List Parcel) → (ℕ → List Parcel) → (ℕ → ℕ) → Type 0
AreFreed nodes received sent free = (to : ℕ) → to < nodes → received to ≡ sent to → 0 < free to

-- how many slots one node knows to be free on the ring to another
abbrev pub free_on : List RingEnd → ℕ → ℕ → ℕ
free_on ends from to = slice_index (slice_index_or (map free_row ends) from []) to

-- the parcel was the first that an end knew of, on the ring from a node, and is now the last that it received from there
pub record TakesKnown (old new : RingEnd) (from : ℕ) (parcel : Parcel) : Type 0 where
  pub within : from < length old.ins.items
  pub none_before : (other : ℕ) → other < from → list_at (known_row old) other ≡ []
  pub first : list_at (known_row old) from ≡ parcel ∷ list_at (known_row new) from
  pub last : AddsOne (list_at (received_row old)) (list_at (received_row new)) from parcel
  pub others : (other : ℕ) → other ≢ from → list_at (known_row new) other ≡ list_at (known_row old) other

-- each sender is that of the ring from a node to the end at the same place
abbrev pub AreSendersOf : List Sender → ℕ → List RingEnd → Type 0
AreSendersOf senders from ends =
    (to : ℕ) (d : RingEnd) (r : Ring) → to < length ends
    → slice_index_or (map ring_out senders) to r ≡ slice_index_or (map ring_in (slice_index_or ends to d).ins.items) from r

-- the ends of all nodes, with a ring that has a slot from each node to each node
pub record AreConnected (nodes : ℕ) (ends : List (Outline Ring)) : Type 0 where
  pub woven : IsWoven nodes nodes ends
  pub slots : All (λ end. All HasSlot end.outs) ends

-- the ends were given back, and know of all that rests. Nothing rests for the node that was served last from the nodes below
-- the next one
pub record AreBack (nodes served next : ℕ) (ends : List RingEnd) : Type 0 where
  pub connected : AreConnected nodes (map outline ends)
  pub meets : Meets nodes (received_on ends) (rest_on ends) (sent_on ends)
  pub taken : (from : ℕ) → from < next → rest_on ends from served ≡ []

-- the ends were given back, and nothing rests
abbrev pub AreAtRest : ℕ → ℕ → ℕ → List RingEnd → Type 0
AreAtRest nodes served next ends = AreBack nodes served next ends × NothingRests nodes (rest_on ends)
