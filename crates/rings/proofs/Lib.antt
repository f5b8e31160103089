pub mod RingVertices
