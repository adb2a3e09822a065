pub mod FewFaults
