-- what the writes of every history keep
pub mod Orderly
-- the test of keys
pub mod Keys
-- what holds of each set that a past has
pub mod Reached
-- closed sets as writes are added
pub mod Grown
-- tests that hold of all older elements once they hold of one
pub mod Older
-- a writer's entry by two numbers
pub mod Rendered
-- what holds of places after every list of happenings
pub mod Placed
-- the writers of a past: whose they are, and in which life
pub mod Lives
-- what holds of the past after every history
pub mod Sound
-- members of lists of writes, and tests over them
pub mod Members
-- what a longer history keeps
pub mod Staying
-- closed sets hold, of each writer, the oldest writes
pub mod Closed
-- objects of a set by their entries
pub mod Entries
-- a writer's entry after one more event
pub mod Raised
-- a merge is the object of the union of two sets
pub mod Merging
-- contexts are ordered as the sets are
pub mod Order
-- a closed set has an object
pub mod Existing
-- the object of a write
pub mod Update
-- the values of an object are those of the siblings of its set
pub mod Showing
-- a set with a write in it shows a value
pub mod Survivor
-- what a delivery and a write add
pub mod Steps
-- objects that arise in one history: merges, and their order
pub mod Arisen
-- counters of one writer rise
pub mod Counted
-- the past of a history's first happenings
pub mod Walking
-- the moments at which a node's knowledge and images stand
pub mod Latest
-- the writes of a history's first happenings, and how many are in a set
pub mod Counting
-- what a write had read, and whether one had read another
pub mod Reading
-- lists by place and by writer
pub mod Listing
-- each node in each of its lives
pub mod EachLife
-- going over a list of writers
pub mod Gone
-- well-formed histories, place by place
pub mod Fitting
-- what was seen and sent before
pub mod Told
-- the moment after one more happening
pub mod Moving
-- marks of unions and of sets under a key
pub mod Marking
-- no incarnation is used twice
pub mod Renewed
-- what holds of each set that a past has and the object in its place
pub mod Paired
-- after every history each object is that of its set
pub mod Matching
-- what one more happening changes
pub mod Changes
-- stale deliveries, and values shown
pub mod Deliveries
-- what stands at a place
pub mod Standing
-- histories with one more happening
pub mod Histories
