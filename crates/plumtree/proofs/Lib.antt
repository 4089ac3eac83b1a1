-- peers that change list, come and go
pub mod Peers
-- each call keeps each peer in one list, and changes who is one as stated
pub mod Standing
-- what is given out goes to others, and each message has a spelling
pub mod Sending
-- calls are taken back
pub mod TakingBack
-- a tick in two steps
pub mod Ticking
-- changes of who is a peer in two steps
pub mod PeerChanges
